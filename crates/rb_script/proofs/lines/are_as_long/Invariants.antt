-- The lines so far are as long.
use Rattle.std.proofs.Common.{◌≡◌, take}
use Rattle.rb_script.specs.Flat.{from_start}
use Rattle.rb_script.proofs.lines.are_as_long.Given as goal

abbrev pub invariant-loop-i : goal.invariant-loop-i
invariant-loop-i l = take l.i (from_start l.start l.ends) ≡ take l.i (from_start l.other_start l.others)
