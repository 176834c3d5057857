use Rattle.std.proofs.Common.{◌∙◌}
use Rattle.rb_editor.proofs.BlockLaws.{all_stand, one_kept}
use Rattle.rb_editor.proofs.offers.block_lines.all_lines.Goals as goal

pub of_block-requires : goal.of_block-requires
of_block-requires c = all_stand c.args.text.now c.args.script.now.blocks c.args.heads.now c.loop-i.i c.block_at-block.result.now c.requires c.block_at-block.ensures

pub loop-i-preserved : goal.loop-i-preserved
loop-i-preserved c =
    one_kept c.loop-i.all.items c.push.new.self.items c.args.text.now c.args.heads.now c.args.script.now.blocks c.loop-i.i c.block_at-block.result.now c.of_block.result c.loop-i-test.true c.block_at-block.ensures c.of_block.ensures c.in_ok-push.ensures.items
    ∙ c.loop-i.invariant
