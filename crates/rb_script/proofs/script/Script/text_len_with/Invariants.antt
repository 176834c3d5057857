-- The length of the tail, and those of the blocks so far.
use Rattle.std.proofs.Common.{◌≡◌, ◌+◌, length, take}
use Rattle.rb_script.specs.Lines.{text_of}
use Rattle.rb_script.specs.Script.{all_expecting}
use Rattle.rb_script.specs.Reading.{capped}
use Rattle.rb_script.proofs.LengthLaws.{blocks_len}
use Rattle.rb_script.proofs.script.Script.text_len_with.Given as goal

abbrev pub invariant-loop-i : goal.invariant-loop-i
invariant-loop-i l = l.total ≡ capped (blocks_len (take l.i (all_expecting l.self-inside.blocks l.outputs)) + length (text_of l.self-inside.tail))
