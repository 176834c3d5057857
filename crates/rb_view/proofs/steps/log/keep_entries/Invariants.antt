-- The rows so far, and those of the entries that are left.
use Rattle.std.proofs.Common.{◌≡◌, ◌+◌, ◌-◌, ◌++◌}
use Rattle.rb_raftlog.specs.Log.{entries_after}
use Rattle.rb_view.specs.Kept.{texts_of}
use Rattle.rb_view.specs.Logs.{entry_rows}
use Rattle.rb_view.proofs.steps.log.keep_entries.Given as goal

abbrev pub invariant-loop-index : goal.invariant-loop-index
invariant-loop-index g l =
    let v = g.L.RaftLog.plain l.log in
    l.texts ++ texts_of (entry_rows l.index (entries_after v (l.index - 1))) ≡ l.initial.texts ++ texts_of (entry_rows (l.fn.kept + 1) (entries_after v l.fn.kept))
