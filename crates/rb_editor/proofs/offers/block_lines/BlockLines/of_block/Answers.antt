use Rattle.std.proofs.Common.{◌≡◌, ◌∙◌, ◌+◌, ◌-◌, length, ap, arith}
use Rattle.rb_editor.specs.BlockLines.{behind_head, mark_lines}
use Rattle.rb_editor.proofs.BlockLaws.{block_inputs, end_within, lines_made}
use Rattle.rb_editor.proofs.offers.block_lines.BlockLines.of_block.Goals as goal

pub overflow_add-below : goal.overflow_add-below
overflow_add-below c =
    omega (arith, end_within c.args.text.now c.args.head c.args.block.now c.requires, c.behind_head-body.ensures.value, c.behind_head-body.ensures.counted, c.inputs.ensures, block_inputs c.args.block.now c.directive.result c.directive.ensures.whole)

pub overflow_add-below-2 : goal.overflow_add-below-2
overflow_add-below-2 c =
    omega (arith, end_within c.args.text.now c.args.head c.args.block.now c.requires, c.behind_head-body.ensures.value, c.behind_head-body.ensures.counted, c.inputs.ensures, block_inputs c.args.block.now c.directive.result c.directive.ensures.whole)

pub overflow_add-end : goal.overflow_add-end
overflow_add-end c =
    let expected = c.len.ensures ∙ ap length c.expected.ensures in
    omega (arith, end_within c.args.text.now c.args.head c.args.block.now c.requires, c.behind_head-body.ensures.value, c.behind_head-body.ensures.counted, c.inputs.ensures, block_inputs c.args.block.now c.directive.result c.directive.ensures.whole, expected)

pub overflow_add-end-2 : goal.overflow_add-end-2
overflow_add-end-2 c =
    let ls = c.args.text.now in
    let expected = c.len.ensures ∙ ap length c.expected.ensures in
    let inputs = c.inputs.ensures ∙ block_inputs c.args.block.now c.directive.result c.directive.ensures.whole in
    let below : c.behind_head-body.result + c.inputs.result + 1 ≡ behind_head ls (c.args.head - 1) + length c.args.block.now.input + 1 = omega (arith, c.behind_head-body.ensures.value, inputs) in
    let marks = c.mark_lines.ensures ∙ ap (mark_lines ls) below in
    omega (arith, end_within ls c.args.head c.args.block.now c.requires, below, c.behind_head-body.ensures.counted, expected, marks)

pub returns : goal.returns
returns c =
    lines_made c.args.text.now c.args.head c.args.block.now c.behind_head-body.result c.inputs.result c.len.result c.mark_lines.result c.behind_head-body.ensures.value
    (c.inputs.ensures ∙ block_inputs c.args.block.now c.directive.result c.directive.ensures.whole) (c.len.ensures ∙ ap length c.expected.ensures) c.mark_lines.ensures
