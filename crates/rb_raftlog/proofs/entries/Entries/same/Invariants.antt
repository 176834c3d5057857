-- The entries so far are the same.
use Rattle.std.proofs.Common.{◌≡◌, take}
use Rattle.rb_raftlog.proofs.entries.Entries.same.Given as goal

abbrev pub invariant-loop-k : goal.invariant-loop-k
invariant-loop-k l = take l.k l.self ≡ take l.k l.other
