use Rattle.std.proofs.Common.{arith}
use Rattle.rb_script.proofs.ReadingLaws.{head_run_is, head_rest_is, head_run_ends, head_rest_ends}
use Rattle.rb_script.proofs.reading.head.Goals as goal

pub returns-then-last-len-clause-run : goal.returns-then-last-len-clause-run
returns-then-last-len-clause-run c = head_run_ends c.args.all.now c.args.start c.run-last.result c.run-last.ensures (omega arith)

pub returns-then-last-len-clause-rest : goal.returns-then-last-len-clause-rest
returns-then-last-len-clause-rest c = head_rest_ends c.args.all.now c.args.start c.run-last.result c.run-last.ensures (omega arith)

pub returns-clause-run : goal.returns-clause-run
returns-clause-run c = head_run_is c.args.all.now c.args.start c.run-last.result c.run-last.ensures (omega arith)

pub returns-clause-rest : goal.returns-clause-rest
returns-clause-rest c = head_rest_is c.args.all.now c.args.start c.run-last.result c.run-last.ensures
