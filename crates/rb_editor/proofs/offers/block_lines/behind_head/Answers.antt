use Rattle.std.proofs.Common.{◌∙◌, sym, arith}
use Rattle.rb_editor.proofs.BlockLaws.{head_goes_on, head_stops, head_ends}
use Rattle.rb_editor.proofs.offers.block_lines.behind_head.Goals as goal

pub loop-i-preserved : goal.loop-i-preserved
loop-i-preserved c = sym (head_goes_on c.args.text.now c.loop-i.i c.line.result.now c.line.ensures (sym c.continues.ensures ∙ c.if-not-continues.false)) ∙ c.loop-i.invariant

pub returns-then-not-continues-clause-value : goal.returns-then-not-continues-clause-value
returns-then-not-continues-clause-value c = sym (head_stops c.args.text.now c.loop-i.i c.line.result.now c.line.ensures (sym c.continues.ensures ∙ c.if-not-continues.true)) ∙ c.loop-i.invariant

pub returns-clause-value : goal.returns-clause-value
returns-clause-value c =
    omega (arith, c.loop-i.invariant, head_ends c.args.text.now c.loop-i.i (omega (arith, c.loop-i-test.false, c.len-count.ensures)), c.loop-i-test.false, c.loop-i.auto.i-end (omega (arith, c.requires, c.len-count.ensures)))
