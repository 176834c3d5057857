-- The pieces so far are the same.
use Rattle.std.proofs.Common.{◌≡◌, take}
use Rattle.rb_raftlog.proofs.content.same_pieces.Given as goal

abbrev pub invariant-loop-k : goal.invariant-loop-k
invariant-loop-k l = take l.k l.pieces ≡ take l.k l.others
