use Rattle.rb_check.proofs.ShownLaws.{along, goes_nothing, to_people, to_programs}
use Rattle.rb_check.proofs.report.Report.begin.Goals as goal

pub returns-in-Some : goal.returns-in-Some
returns-in-Some g c = to_programs _ _ c.in-Some.format c.in-Some.is (along c.beginning.ensures c.put.ensures.shown)

pub returns-in-None : goal.returns-in-None
returns-in-None g c = to_people _ _ c.in-None.is (goes_nothing _ _)
