use Rattle.rb_script_report.proofs.AcceptLaws.{too_long}
use Rattle.rb_script_report.proofs.written.refusal.Goals as goal

pub returns-in-BadExpectation : goal.returns-in-BadExpectation
returns-in-BadExpectation c = λ s fails. (rw c.in-BadExpectation.is at fails, c.bad_head.ensures)

pub returns-in-TooLong : goal.returns-in-TooLong
returns-in-TooLong c = λ s fails. too_long s c.args.expected.now (rw c.in-TooLong.is at fails)
