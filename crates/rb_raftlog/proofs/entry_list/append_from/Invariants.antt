-- The copies so far.
use Rattle.std.proofs.Common.{◌≡◌, ◌++◌, ◌-◌, take, drop}
use Rattle.rb_raftlog.proofs.entry_list.append_from.Given as goal

abbrev pub invariant-loop-k : goal.invariant-loop-k
invariant-loop-k g l = l.pages ≡ l.initial.pages ++ take (l.k - l.from) (drop l.from (g.E.EntryList.listed l.entries))
