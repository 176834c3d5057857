-- A run under way, as the code sees it. (This project's.)
use Rattle.std.specs.Prelude.{◌≡◌, ℕ, ◌+◌, ◌*◌, ◌≤◌, List, ◌++◌, length, take, map}
use Rattle.rb_script.specs.Script.{PlainScript}
use Rattle.rb_script.specs.Shared.{values}
use Rattle.rb_machine.specs.Cluster.{Cluster}
use Rattle.rb_replay.specs.declared.run.Run.{Run}
use Rattle.rb_replay.specs.Run.{state, outputs}
use Rattle.rb_replay.specs.Points.{every}

-- How points are kept on the way: `until_checkpoint` directives are still to run up to the next one. Whoever comes to
-- `at` has not kept it yet.
pub record IsPaced (K from at until_checkpoint : ℕ) (points : List ℕ) : Type 0 where
  pub so_far : points ≡ every K from (length points)
  pub next : at + until_checkpoint ≡ from + (length points + 1) * K
  pub most : until_checkpoint ≤ K
  pub fresh : until_checkpoint ≡ K → at ≡ from

-- and who continues from `at` has kept it if it was until_checkpoint
pub record IsPacedOn (K from at until_checkpoint : ℕ) (points : List ℕ) : Type 0 where
  pub so_far : points ≡ every K from (length points)
  pub next : at + until_checkpoint ≡ from + (length points + 1) * K
  pub least : 1 ≤ until_checkpoint
  pub most : until_checkpoint ≤ K

-- what a run of a script from a point on has brought
pub record HasRun {M : Type 0} (meaning : M → Cluster) (s : PlainScript) (c : Run M) : Type 0 where
  pub from_first : c.from ≤ c.at
  pub within : c.at ≤ length s.blocks
  pub outputs_on : take c.from (outputs s) ++ values c.outputs.items ≡ take c.at (outputs s)
  pub states_are : map meaning c.kept.items ≡ map (state s) c.points.items

-- and its points, when it comes to a point, and when it continues from it
abbrev pub PacedAt : {M : Type 0} → Run M → Type 0
PacedAt c = IsPaced c.checkpoint_interval c.from c.at c.until_checkpoint c.points.items

abbrev pub PacedOn : {M : Type 0} → Run M → Type 0
PacedOn c = IsPacedOn c.checkpoint_interval c.from c.at c.until_checkpoint c.points.items
