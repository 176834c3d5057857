-- The entries so far are no conflict.
use Rattle.std.proofs.Common.{◌≡◌, ◌+◌, drop}
use Rattle.rb_raftlog.specs.Log.{conflict}
use Rattle.rb_raftlog.proofs.log.Log.conflict.Given as goal

abbrev pub invariant-loop-k : goal.invariant-loop-k
invariant-loop-k g l = conflict l.self l.from (g.E.EntryList.listed l.entries) l.commit ≡ conflict l.self (l.from + l.k) (drop l.k (g.E.EntryList.listed l.entries)) l.commit
