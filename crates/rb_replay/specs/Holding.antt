-- The state of a session. (This project's.)
use Rattle.std.specs.Prelude.{◌≡◌, ℕ, ◌≤◌, List, map, length, true}
use Rattle.rb_script.specs.declared.limits.TheConstants.{MAX_DIRECTIVES}
use Rattle.rb_script.specs.Lines.{Line}
use Rattle.rb_script.specs.Script.{PlainScript}
use Rattle.rb_machine.specs.Cluster.{Cluster}
use Rattle.rb_replay.specs.Run.{state, outputs}
use Rattle.rb_replay.specs.Report.{mismatches}
use Rattle.rb_replay.specs.Points.{AreKept}
use Rattle.rb_replay.specs.Start.{is_checkpoint_interval}

pub record Holding : Type 0 where
  pub script : PlainScript
  pub checkpoint_interval : ℕ
  pub outputs : List (List Line)
  pub mismatches : List ℕ
  -- the checkpoints: their points, and their clusters
  pub points : List ℕ
  pub kept : List Cluster

-- The state is that of one run of the script.
pub record IsOneRun (h : Holding) : Type 0 where
  pub answered : h.outputs ≡ outputs h.script
  pub compared : h.mismatches ≡ mismatches h.script
  pub states : h.kept ≡ map (state h.script) h.points
  pub near : AreKept h.checkpoint_interval (length h.script.blocks) h.points
  pub spaced : 1 ≤ h.checkpoint_interval
  pub few : length h.script.blocks ≤ MAX_DIRECTIVES

-- The same for a session that was started, whose checkpoint interval is allowed.
pub record IsFresh (h : Holding) : Type 0 where
  pub run : IsOneRun h
  pub spaced : is_checkpoint_interval h.checkpoint_interval ≡ true
