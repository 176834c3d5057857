use Rattle.std.proofs.Common.{arith}
use Rattle.rb_lsp.proofs.DifferLaws.{end_more, end_stop, end_all}
use Rattle.rb_lsp.proofs.document.edit.common_end.Goals as goal

pub loop-i-preserved : goal.loop-i-preserved
loop-i-preserved c = omega (arith, c.loop-i.invariant, end_more c.args.old.now c.args.new.now c.args.front c.loop-i.i (omega arith) (omega arith) c.if-old-i.false)

pub returns-then-old-i-clause-value : goal.returns-then-old-i-clause-value
returns-then-old-i-clause-value c = omega (arith, c.loop-i.invariant, end_stop c.args.old.now c.args.new.now c.args.front c.loop-i.i (omega arith) (omega arith) c.if-old-i.true)

pub returns-clause-value : goal.returns-clause-value
returns-clause-value c = omega (arith, c.loop-i.invariant, end_all c.args.old.now c.args.new.now c.args.front c.loop-i.i (omega arith))
