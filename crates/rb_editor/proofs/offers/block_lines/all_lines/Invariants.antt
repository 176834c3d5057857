-- The lines of the blocks so far.
use Rattle.std.proofs.Common.{◌≡◌, ◌++◌, drop}
use Rattle.rb_editor.specs.BlockLines.{all_lines}
use Rattle.rb_editor.proofs.offers.block_lines.all_lines.Given as goal

abbrev pub invariant-loop-i : goal.invariant-loop-i
invariant-loop-i l = l.all.items ++ all_lines l.text (drop l.i l.heads) (drop l.i l.script.blocks) ≡ all_lines l.text l.heads l.script.blocks
