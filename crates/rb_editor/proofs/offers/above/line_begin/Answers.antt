use Rattle.std.proofs.Common.{◌∙◌, sym, arith}
use Rattle.rb_editor.proofs.HeadToLaws.{begin_here, begin_less, begin_none}
use Rattle.rb_editor.proofs.offers.above.line_begin.Goals as goal

pub loop-start-preserved : goal.loop-start-preserved
loop-start-preserved c = record {
  before = omega (arith, c.loop-start.invariant.before);
  same = sym (begin_less c.loop-start.start c.args.text.now c.loop-start-test.true c.if-text-start-ne10.true) ∙ c.loop-start.invariant.same;
}

pub returns-else-text-start-ne10-clause-value : goal.returns-else-text-start-ne10-clause-value
returns-else-text-start-ne10-clause-value c = sym (begin_here c.loop-start.start c.args.text.now c.loop-start-test.true c.if-text-start-ne10.false) ∙ c.loop-start.invariant.same

pub returns-after-loop-start-clause-value : goal.returns-after-loop-start-clause-value
returns-after-loop-start-clause-value c = sym (begin_none c.loop-start.start c.args.text.now (omega (arith, c.loop-start-test.false))) ∙ c.loop-start.invariant.same
