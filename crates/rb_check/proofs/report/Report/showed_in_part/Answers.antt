use Rattle.rb_check.proofs.ShownLaws.{goes_front}
use Rattle.rb_check.proofs.report.Report.showed_in_part.Goals as goal

pub returns-in-Writing-clause-shown : goal.returns-in-Writing-clause-shown
returns-in-Writing-clause-shown g c = λ before text is_open put. c.wrote.ensures.shown before text is_open put

pub returns-in-OutOfMemory-clause-shown : goal.returns-in-OutOfMemory-clause-shown
returns-in-OutOfMemory-clause-shown g c = λ before text is_open put. goes_front is_open put
