use Rattle.rb_check.proofs.ShownLaws.{showed_front}
use Rattle.rb_check.proofs.report.Report.showed.Goals as goal

pub returns-in-Ok-clause-shown : goal.returns-in-Ok-clause-shown
returns-in-Ok-clause-shown g c = λ before text is_open put. c.wrote.ensures.shown before text is_open (rw c.in-Ok.is at put)

pub returns-in-Err-clause-shown : goal.returns-in-Err-clause-shown
returns-in-Err-clause-shown g c = λ before text is_open put. c.showed_in_part.ensures.shown before text is_open (showed_front c.args.shown c.in-Err.fault before _ text c.in-Err.is put)
