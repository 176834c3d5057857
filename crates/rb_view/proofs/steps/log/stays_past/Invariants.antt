-- The entries from the first index up to this one are those of before.
use Rattle.std.proofs.Common.{◌≡◌, ◌+◌, ◌≤◌}
use Rattle.std.specs.Prelude.{max}
use Rattle.rb_raftlog.specs.Log.{entries_after}
use Rattle.rb_view.specs.Logs.{common, same_up_to}
use Rattle.rb_view.proofs.steps.log.stays_past.Given as goal

abbrev pub invariant-loop-index : goal.invariant-loop-index
invariant-loop-index g l =
    let old = g.L.RaftLog.plain l.old in
    let new = g.L.RaftLog.plain l.new in
    record {
      so_far : same_up_to old new l.from ≡ l.index + common (entries_after old l.index) (entries_after new l.index);
      within : l.index ≤ max l.from l.last;
    }
