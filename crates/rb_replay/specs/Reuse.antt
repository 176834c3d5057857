-- Reusing the old run after a change. (This project's.)
use Rattle.std.specs.Prelude.{◌≡◌, ℕ, ◌+◌, ◌-◌, ◌*◌, ◌/◌, ◌<◌, ◌≤◌, ◌⊎◌, min, nat_le, nat_lt, List, ◌++◌, length, take, drop, filter, map, Contains, Option, Some, None}
use Rattle.rb_script.specs.Script.{PlainScript}
use Rattle.rb_script.specs.declared.edit.Edit.{Edit}
use Rattle.rb_script.specs.declared.edit.Edit.TheVariants.{Insert, Replace, Remove, Expect, Accept}
use Rattle.rb_replay.specs.declared.splice.Splice.{Splice}
use Rattle.rb_replay.specs.declared.splice.Effect.{Effect}
use Rattle.rb_replay.specs.declared.splice.Effect.TheVariants.{Replay}
use Rattle.rb_replay.specs.declared.splice.Effect.TheVariants as effects
use Rattle.rb_replay.specs.Run.{directives, state}
use Rattle.rb_replay.specs.Points.{last_up_to, every, thin, AreKept}
use Rattle.rb_replay.specs.Holding.{Holding}

-- Two scripts and what they share: the first `front` directives, and those after old point `old_rest`, which
-- are after new point `new_rest`. Clusters of the old script are kept at `points`, `checkpoint interval` directives
-- apart.
pub record Change : Type 0 where
  pub old : PlainScript
  pub new : PlainScript
  pub front : ℕ
  pub old_rest : ℕ
  pub new_rest : ℕ
  pub checkpoint_interval : ℕ
  pub points : List ℕ

abbrev pub change : Holding → PlainScript → ℕ → ℕ → ℕ → Change
change h new front old_rest new_rest =
    record { old = h.script; new = new; front = front; old_rest = old_rest; new_rest = new_rest; checkpoint_interval = h.checkpoint_interval; points = h.points }

-- what an edit changes of a run: the directives between a front and a rest that stay, or only expectations
abbrev pub effect_of : Edit → Effect
effect_of (Insert k block) = Replay (record { front = k - 1; old_rest = k - 1; new_rest = k })
effect_of (Replace k block) = Replay (record { front = k - 1; old_rest = k; new_rest = k })
effect_of (Remove k) = Replay (record { front = k - 1; old_rest = k; new_rest = k - 1 })
effect_of (Expect k lines) = effects.Expect k
effect_of Accept = effects.Accept

abbrev pub change_by : Holding → PlainScript → Splice → Change
change_by h new splice = change h new splice.front splice.old_rest splice.new_rest

abbrev pub change_for : Holding → PlainScript → Effect → Option Change
change_for h new (Replay splice) = Some (change_by h new splice)
change_for h new (effects.Expect k) = None
change_for h new effects.Accept = None

-- the change that an edit makes of a session, where it may change a cluster
abbrev pub change_of : Holding → PlainScript → Edit → Option Change
change_of h new edit = change_for h new (effect_of edit)

-- the point to run on from
abbrev pub start : Change → ℕ
start c = last_up_to c.front c.points

-- the old place of a new point in the rest, and the new place of an old one
abbrev pub old_point : Change → ℕ → ℕ
old_point c s = s - c.new_rest + c.old_rest

abbrev pub new_point : Change → ℕ → ℕ
new_point c p = p - c.old_rest + c.new_rest

-- At this new point the new cluster is the one that is kept for the old point.
pub record Meets (c : Change) (s : ℕ) : Type 0 where
  pub from_start : start c ≤ s
  pub in_rest : c.new_rest ≤ s
  pub is_kept : Contains c.points (old_point c s)
  pub same : state c.new s ≡ state c.old (old_point c s)

-- the least point where they meet, or none
abbrev pub IsFirstMeeting : Change → Option ℕ → Type 0
IsFirstMeeting c (Some s) = Meets c s × ((t : ℕ) → t < s → Meets c t → ⊥)
IsFirstMeeting c None = (t : ℕ) → Meets c t → ⊥

-- where running stops
abbrev pub stop : Change → Option ℕ → ℕ
stop c (Some s) = s
stop c None = length c.new.blocks

-- the points on the way: start + K, start + 2 * K and so on, before a meeting or up to the end
abbrev pub fresh_points : Change → Option ℕ → List ℕ
fresh_points c None = every c.checkpoint_interval (start c) ((length c.new.blocks - start c) / c.checkpoint_interval)
fresh_points c (Some s) = every c.checkpoint_interval (start c) ((s - 1 - start c) / c.checkpoint_interval)

-- The points before thinning: up to the start, those on the way, and from a meeting on those of the old
-- script.
abbrev pub points_before : Change → Option ℕ → List ℕ
points_before c None = filter (λ p. nat_lt p (start c + 1)) c.points ++ fresh_points c None
points_before c (Some s) =
    filter (λ p. nat_lt p (min (start c + 1) s)) c.points ++ (fresh_points c (Some s) ++ map (new_point c) (filter (λ p. nat_le (old_point c s) p) c.points))

abbrev pub points_after : Change → Option ℕ → List ℕ
points_after c meeting = thin c.checkpoint_interval (points_before c meeting)

-- which points are in that list
abbrev pub IsOldPoint : Change → Option ℕ → ℕ → Type 0
IsOldPoint c None p = ⊥
IsOldPoint c (Some s) p = (s ≤ p) × Contains c.points (old_point c p)

abbrev pub IsPointBefore : Change → Option ℕ → ℕ → Type 0
IsPointBefore c meeting p =
    (Contains c.points p × (p ≤ start c))
    ⊎ ((j : ℕ) × (1 ≤ j) × (p ≡ start c + j * c.checkpoint_interval) × (p ≤ stop c meeting))
    ⊎ IsOldPoint c meeting p

-- what a change is like: front and rest have the same directives, which is all that a run reads of blocks
pub record IsChange (c : Change) : Type 0 where
  pub same_front : take c.front (directives c.new) ≡ take c.front (directives c.old)
  pub same_rest : drop c.new_rest (directives c.new) ≡ drop c.old_rest (directives c.old)
  pub old_from : c.front ≤ c.old_rest
  pub new_from : c.front ≤ c.new_rest
  pub old_within : c.old_rest ≤ length c.old.blocks
  pub new_within : c.new_rest ≤ length c.new.blocks
  pub lengths : length c.new.blocks + c.old_rest ≡ length c.old.blocks + c.new_rest
  pub spaced : 1 ≤ c.checkpoint_interval
  pub kept : AreKept c.checkpoint_interval (length c.old.blocks) c.points

-- and where front and rest have the same blocks, with what is expected of them
pub record StayWhole (c : Change) : Type 0 where
  pub same_front : take c.front c.new.blocks ≡ take c.front c.old.blocks
  pub same_rest : drop c.new_rest c.new.blocks ≡ drop c.old_rest c.old.blocks

-- the change of one edit: at most one block goes, at most one comes, and the others stay
pub record IsOneBlock (c : Change) : Type 0 where
  pub whole : StayWhole c
  pub old_to : c.old_rest ≤ c.front + 1
  pub new_to : c.new_rest ≤ c.front + 1

-- the number of executed directives
pub record IsCost (c : Change) (executed : ℕ) : Type 0 where
  pub meeting : Option ℕ
  pub is_first : IsFirstMeeting c meeting
  pub is_cost : executed ≡ stop c meeting - start c

-- The reuse, exactly: where the run stops, how many directives are executed, and the points of the checkpoints.
pub record Reuses (c : Change) (executed : ℕ) (points : List ℕ) : Type 0 where
  pub cost : IsCost c executed
  pub are_points : points ≡ points_after c cost.meeting

-- the same of an edit: one that changes no cluster executes nothing and leaves the points
abbrev pub ReusesIf : Option Change → List ℕ → ℕ → List ℕ → Type 0
ReusesIf (Some c) old_points executed points = Reuses c executed points
ReusesIf None old_points executed points = (executed ≡ 0) × (points ≡ old_points)

abbrev pub ReusesFor : Holding → Edit → PlainScript → ℕ → List ℕ → Type 0
ReusesFor h edit new executed points = ReusesIf (change_of h new edit) h.points executed points

abbrev pub IsCostIf : Option Change → ℕ → Type 0
IsCostIf (Some c) executed = IsCost c executed
IsCostIf None executed = executed ≡ 0

-- how many directives an edit of a session executes, where it makes this script
abbrev pub IsCostFor : Holding → Edit → PlainScript → ℕ → Type 0
IsCostFor h edit new executed = IsCostIf (change_of h new edit) executed
