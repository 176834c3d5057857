-- The head goes on.
use Rattle.std.proofs.Common.{◌≡◌}
use Rattle.rb_editor.specs.BlockLines.{behind_head}
use Rattle.rb_editor.proofs.offers.block_lines.behind_head.Given as goal

abbrev pub invariant-loop-i : goal.invariant-loop-i
invariant-loop-i l = behind_head l.text l.i ≡ behind_head l.text l.from
