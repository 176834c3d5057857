use Rattle.rb_check.proofs.ShownLaws.{to_people, to_programs}
use Rattle.rb_check.proofs.report.Report.remark.Goals as goal

pub returns-in-Some-clause-shown : goal.returns-in-Some-clause-shown
returns-in-Some-clause-shown g c = to_programs _ _ c.in-Some.format c.in-Some.is c.notify.ensures.shown

pub returns-in-None-clause-shown : goal.returns-in-None-clause-shown
returns-in-None-clause-shown g c = to_people _ _ c.in-None.is c.show.ensures.shown
