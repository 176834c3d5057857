-- A change, as the code represents it. (This project's.)
use Rattle.std.specs.Prelude.{◌≡◌, ℕ, ◌+◌, ◌-◌, ◌<◌, ◌≤◌, min, nat_le, nat_lt, List, [], ◌∷◌, ◌++◌, length, take, drop, map, filter, slice_index, Option, Some, None}
use Rattle.rb_script.specs.Script.{PlainScript}
use Rattle.rb_replay.specs.declared.splice.Splice.{Splice}
use Rattle.rb_replay.specs.declared.run.Rerun.{Rerun}
use Rattle.rb_replay.specs.declared.prepare.Rejoin.{Rejoin}
use Rattle.rb_replay.specs.declared.ready.Ready.{Ready}
use Rattle.rb_script.specs.Lines.{Line}
use Rattle.rb_machine.specs.Cluster.{Cluster}
use Rattle.rb_replay.specs.Running.{HasRun}
use Rattle.rb_replay.specs.Run.{state, outputs}
use Rattle.rb_replay.specs.Report.{mismatches}
use Rattle.rb_replay.specs.Reuse.{Change, start, stop, old_point, IsFirstMeeting, fresh_points, points_before}

-- where a point, or the next one after it, is in a list of points
pub record IsNext (points : List ℕ) (point index : ℕ) : Type 0 where
  pub within : index ≤ length points
  pub below : (k : ℕ) → k < index → slice_index points k < point
  pub above : index < length points → point ≤ slice_index points index

-- the points of the clusters that a run brings: at a meeting its own too
abbrev pub run_points : Change → Option ℕ → List ℕ
run_points c None = fresh_points c None
run_points c (Some s) = fresh_points c (Some s) ++ s ∷ []

-- up to where old points stay, and from where on the old run is used again
abbrev pub front_bound : Change → Option ℕ → ℕ
front_bound c None = start c + 1
front_bound c (Some s) = min (start c + 1) s

abbrev pub old_stop : Change → Option ℕ → ℕ
old_stop c None = length c.old.blocks
old_stop c (Some s) = old_point c s

-- the result of running an edited script
pub record IsRerun {M : Type 0} (meaning : M → Cluster) (c : Change) (r : Rerun M) : Type 0 where
  pub is_first : IsFirstMeeting c r.met
  pub from_is : r.running.from ≡ start c
  pub at_is : r.running.at ≡ stop c r.met
  pub spacing_is : r.running.checkpoint_interval ≡ c.checkpoint_interval
  pub has_run : HasRun meaning c.new r.running
  pub points_are : r.running.points.items ≡ run_points c r.met

-- Where the old run continues: which of its points stay, and which are used again.
pub record IsRejoin (c : Change) (meeting : Option ℕ) (rejoin : Rejoin) : Type 0 where
  pub old_stop_is : rejoin.old_stop ≡ old_stop c meeting
  pub fronts : take rejoin.front c.points ≡ filter (λ p. nat_lt p (front_bound c meeting)) c.points
  pub rests : drop rejoin.rest c.points ≡ filter (λ p. nat_le (old_stop c meeting + 1) p) c.points
  pub order : rejoin.front ≤ rejoin.rest
  pub within : rejoin.rest ≤ length c.points

abbrev pub no_splice : Splice
no_splice = record { front = 0; old_rest = 0; new_rest = 0 }

-- Blocks and outputs of two scripts are the same up to a point, and from an old point on, but that they
-- move.
pub record IsUpdated (old new : PlainScript) (splice : Splice) (from : ℕ) (os : List (List Line)) (stop : ℕ) : Type 0 where
  -- up to `from` both scripts have the same blocks
  pub same_front : take from new.blocks ≡ take from old.blocks
  -- and answer the same
  pub same_answers : take from (outputs new) ≡ take from (outputs old)
  -- the outputs `os` are those of the new script from there on
  pub answers_on : take from (outputs new) ++ os ≡ take (from + length os) (outputs new)
  -- after them the blocks are those after `stop` in the old script
  pub same_rest : drop (from + length os) new.blocks ≡ drop stop old.blocks
  -- and so are the outputs
  pub same_end : drop (from + length os) (outputs new) ≡ drop stop (outputs old)
  -- as far as the splice moves the rest, so far `stop` was moved
  pub moved : from + length os ≡ stop - splice.old_rest + splice.new_rest
  -- `stop` lies in the rest that the splice leaves
  pub in_rest : splice.old_rest ≤ stop
  -- and not before `from`
  pub order : from ≤ stop
  -- both ends lie within their scripts
  pub old_within : stop ≤ length old.blocks
  pub new_within : from + length os ≤ length new.blocks

-- The prepared parts of a change: with the parts of the old session that stay they are the new one.
pub record IsReady {M : Type 0} (meaning : M → Cluster) (c : Change) (kept : List Cluster) (r : Ready M) : Type 0 where
  -- where an old cluster was met, if one was
  pub meeting : Option ℕ
  pub is_first : IsFirstMeeting c meeting
  -- the run went from the start to the stop, and kept clusters as far apart as the session does
  pub from_is : r.running.from ≡ start c
  pub at_is : r.running.at ≡ stop c meeting
  pub spacing_is : r.running.checkpoint_interval ≡ c.checkpoint_interval
  -- the new points, before thinning, and the new mismatches are prepared whole
  pub points_are : r.points.items ≡ points_before c meeting
  pub mismatches_are : r.mismatches.items ≡ mismatches c.new
  -- and so do its outputs
  pub outputs_are : r.outputs ≡ outputs c.new
  -- old clusters, those that were kept on the way, and old ones again are those of the new points
  pub states_are : take r.rejoin.front kept ++ (map meaning r.running.kept.items ++ drop r.rejoin.rest kept) ≡ map (state c.new) r.points.items
  -- the parts that stay and those that are reused don't overlap, and are within the old ones
  pub front_first : r.rejoin.front ≤ r.rejoin.rest
  pub rest_within : r.rejoin.rest ≤ length c.points
