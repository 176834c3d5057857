-- None of the blocks so far has the line.
use Rattle.std.proofs.Common.{◌≡◌, drop}
use Rattle.rb_editor.specs.Selections.{block_with}
use Rattle.rb_editor.proofs.actions.selection_range.block_with.Given as goal

abbrev pub invariant-loop-block : goal.invariant-loop-block
invariant-loop-block l = block_with l.n (drop l.block-index l.blocks) ≡ block_with l.n l.blocks
