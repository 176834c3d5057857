-- The sum so far, with the bytes that are left, is that of all.
use Rattle.std.proofs.Common.{◌≡◌, drop}
use Rattle.rb_raftlog.specs.Content.{sum_from}
use Rattle.rb_raftlog.proofs.content.sum_from.Given as goal

abbrev pub invariant-loop-byte : goal.invariant-loop-byte
invariant-loop-byte l = sum_from l.so_far (drop l.byte-index l.bytes) ≡ sum_from l.sum l.bytes
