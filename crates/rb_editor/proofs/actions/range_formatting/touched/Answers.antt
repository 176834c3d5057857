use Rattle.std.proofs.Common.{◌∙◌, ℕ, ◌+◌, Option, drop, ap, sym}
use Rattle.rb_editor.specs.BlockLines.{counted_lines}
use Rattle.rb_editor.specs.RangeFormatting.{touched}
use Rattle.rb_editor.proofs.RangeFormattingLaws.{all_touched, one_touched}
use Rattle.rb_editor.proofs.actions.range_formatting.touched.Goals as goal

pub loop-block-preserved : goal.loop-block-preserved
loop-block-preserved c =
    ap (λ (f : Option (ℕ × ℕ)). touched c.args.first c.args.last f (drop (c.loop-block.block-index + 1) c.args.blocks.now)) c.after_block-found.ensures
    ∙ sym (one_touched c.args.first c.args.last c.loop-block.found c.args.blocks.now c.loop-block.block-index (counted_lines 0 0 0 0) c.loop-block-test.true)
    ∙ c.loop-block.invariant

pub returns : goal.returns
returns c = sym (all_touched c.args.first c.args.last c.loop-block.found c.args.blocks.now c.loop-block.block-index c.loop-block-test.false) ∙ c.loop-block.invariant
