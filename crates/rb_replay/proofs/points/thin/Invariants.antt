use Rattle.std.proofs.Common.{◌≡◌, ◌-◌, ◌<◌, ◌≤◌, ℕ, map, vec_len}
use Rattle.rb_machine.specs.Cluster.{Cluster}
use Rattle.rb_replay.specs.Points.{thin}
use Rattle.rb_replay.proofs.PartLaws.{thinned_from}
use Rattle.rb_replay.proofs.points.thin.Given as goal

abbrev pub invariant-loop-i : goal.invariant-loop-i
invariant-loop-i g l = record {
  from_one : 1 ≤ l.i;
  within : l.i < vec_len l.points;
  paired : vec_len l.kept ≡ vec_len l.points;
  thinned : thinned_from l.checkpoint_interval l.i l.points.items ≡ thin l.checkpoint_interval l.fn.points.items;
  kept : (f : _ → Cluster) (h : ℕ → Cluster) → map f l.fn.kept.items ≡ map h l.fn.points.items → map f l.kept.items ≡ map h l.points.items;
}

abbrev pub decreases-loop-i : goal.decreases-loop-i
decreases-loop-i g l = vec_len l.points - l.i
