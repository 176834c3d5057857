use Rattle.std.proofs.Common.{◌∙◌, sym}
use Rattle.rb_editor.proofs.SelectionLaws.{with_here, with_none, with_past}
use Rattle.rb_editor.proofs.actions.selection_range.block_with.Goals as goal

pub returns-then-has_line : goal.returns-then-has_line
returns-then-has_line c =
    sym (with_here c.args.n c.args.blocks.now c.loop-block.block-index _ c.loop-block-test.true (sym c.has_line.ensures ∙ c.if-has_line.true)) ∙ c.loop-block.invariant

pub loop-block-preserved : goal.loop-block-preserved
loop-block-preserved c =
    with_past c.args.n c.args.blocks.now c.loop-block.block-index _ c.loop-block-test.true (sym c.has_line.ensures ∙ c.if-has_line.false) ∙ c.loop-block.invariant

pub returns : goal.returns
returns c = sym (with_none c.args.n c.args.blocks.now c.loop-block.block-index c.loop-block-test.false) ∙ c.loop-block.invariant
