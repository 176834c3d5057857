use Rattle.std.proofs.Common.{arith}
use Rattle.rb_lsp.proofs.PlainLaws.{counted_one, counted_all}
use Rattle.rb_lsp.proofs.document.line_table.feed_count.Goals as goal

pub loop-b-preserved : goal.loop-b-preserved
loop-b-preserved c = record {
  all = omega (arith, counted_one c.loop-b.b-index c.args.text.now c.loop-b-test.true, c.one_if-count.ensures.value, c.loop-b.invariant.all);
  few = omega (arith, c.one_if-count.ensures.most, c.loop-b.invariant.few);
}

pub returns-clause-value : goal.returns-clause-value
returns-clause-value c = omega (arith, counted_all c.loop-b.b-index c.args.text.now c.loop-b-test.false, c.loop-b.invariant.all)
