-- The bytes so far stand for themselves.
use Rattle.std.proofs.Common.{◌≡◌, take}
use Rattle.std.specs.List.{flat_map}
use Rattle.rb_texts.specs.Quoted.{escaped}
use Rattle.rb_texts.proofs.piece.plain_len.Given as goal

abbrev pub invariant-loop-i : goal.invariant-loop-i
invariant-loop-i l = flat_map escaped (take l.i l.bytes) ≡ take l.i l.bytes
