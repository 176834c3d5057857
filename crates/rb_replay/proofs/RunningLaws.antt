-- Laws of a run under way.
use Rattle.std.proofs.Common.{◌≡◌, ℕ, ◌≤◌, List, [], ◌∷◌, ◌++◌, length, take, map, refl, ap, ap₂, sym, ◌∙◌, arith, append-nil, Some, None}
use Rattle.std.proofs.lemmas.List.{map-append, length-map}
use Rattle.rb_script.specs.Script.{PlainScript}
use Rattle.rb_machine.specs.Cluster.{Cluster}
use Rattle.rb_replay.specs.declared.run.Run.{Run}
use Rattle.rb_replay.specs.Run.{state, outputs}
use Rattle.rb_replay.specs.Reuse.{Change, start, fresh_points}
use Rattle.rb_replay.specs.Running.{HasRun, PacedAt, PacedOn}
use Rattle.rb_replay.specs.Splices.{run_points}
use Rattle.rb_replay.proofs.PaceLaws.{paced_start, paced_end, paced_meeting}

-- what holds when nothing has run
pub running-run : {M : Type 0} (meaning : M → Cluster) (s : PlainScript) (c : Run M) → c.outputs.items ≡ [] → c.points.items ≡ [] → c.kept.items ≡ [] → c.at ≡ c.from → c.from ≤ length s.blocks → HasRun meaning s c
running-run meaning s c outs points kept at le = record {
  from_first = omega arith;
  within = omega arith;
  outputs_on = rw (outs, at) (append-nil (take c.from (outputs s)));
  states_are = rw (kept, points) refl;
}

pub running-paced : {M : Type 0} (c : Run M) → c.points.items ≡ [] → c.at ≡ c.from → c.until_checkpoint ≡ c.checkpoint_interval → PacedAt c
running-paced c points at until_checkpoint = rw (points, at, until_checkpoint) (paced_start c.checkpoint_interval c.from)

-- the points of a run up to the end, and up to a meeting
pub running-end : {M : Type 0} (c : Run M) (ch : Change) → PacedOn c → c.checkpoint_interval ≡ ch.checkpoint_interval → c.from ≡ start ch → c.at ≡ length ch.new.blocks → c.points.items ≡ run_points ch None
running-end c ch paced checkpoint_interval from at = paced_end c.checkpoint_interval c.from c.at c.until_checkpoint c.points.items paced ∙ rw (checkpoint_interval, from, at) refl

pub running-meeting : {M : Type 0} (c : Run M) (ch : Change) (s : ℕ) → 1 ≤ c.checkpoint_interval → c.from ≤ c.at → PacedAt c → c.checkpoint_interval ≡ ch.checkpoint_interval → c.from ≡ start ch → c.at ≡ s → c.points.items ≡ fresh_points ch (Some s)
running-meeting c ch s one le paced checkpoint_interval from at = paced_meeting c.checkpoint_interval c.from c.at c.until_checkpoint c.points.items one le paced ∙ rw (checkpoint_interval, from, at) refl

-- a kept cluster more
pub states-more : {M : Type 0} (meaning : M → Cluster) (s : PlainScript) (kept : List M) (points : List ℕ) (m : M) (at : ℕ) → map meaning kept ≡ map (state s) points → meaning m ≡ state s at → map meaning (kept ++ m ∷ []) ≡ map (state s) (points ++ at ∷ [])
states-more meaning s kept points m at same here =
    map-append meaning kept (m ∷ []) ∙ ap₂ (λ (a : List Cluster) (b : Cluster). a ++ b ∷ []) same here ∙ sym (map-append (state s) points (at ∷ []))

-- lists with equal images are as long
pub same-length : {A B C : Type 0} (f : A → C) (h : B → C) (xs : List A) (ys : List B) → map f xs ≡ map h ys → length xs ≡ length ys
same-length f h xs ys same = sym (length-map xs f) ∙ ap length same ∙ length-map ys h
