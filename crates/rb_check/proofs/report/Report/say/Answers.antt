use Rattle.rb_check.proofs.report.Report.say.Goals as goal

pub returns-clause-shown : goal.returns-clause-shown
returns-clause-shown g c = c.show.ensures.shown
