use Rattle.std.proofs.Common.{◌∙◌, List, ap}
use Rattle.rb_script.specs.Lines.{Line}
use Rattle.rb_view.specs.Steps.{left_next}
use Rattle.rb_view.proofs.SomeLaws.{left_on}
use Rattle.rb_view.proofs.steps.some.left_at.Goals as goal

pub loop-i-preserved : goal.loop-i-preserved
loop-i-preserved g c =
    left_on c.args.session.now.script c.loop-i.i c.loop-i.left c.left_next-left.result c.block_at-block.result.now c.output_at.result.now c.block_at-block.ensures c.output_at.ensures c.loop-i.invariant
    (c.left_next-left.ensures ∙ ap (λ (es : List Line). left_next c.loop-i.left es c.output_at.result.now) c.expected.ensures)
