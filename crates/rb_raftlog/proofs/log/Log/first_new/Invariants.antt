-- The entries so far are held.
use Rattle.std.proofs.Common.{◌≡◌, ◌+◌, drop}
use Rattle.rb_raftlog.specs.Log.{first_new}
use Rattle.rb_raftlog.proofs.log.Log.first_new.Given as goal

abbrev pub invariant-loop-k : goal.invariant-loop-k
invariant-loop-k g l = first_new l.self l.from (g.E.EntryList.listed l.entries) ≡ first_new l.self (l.from + l.k) (drop l.k (g.E.EntryList.listed l.entries))
