use Rattle.rb_check.proofs.report.Report.fail.Goals as goal

pub returns-clause-shown : goal.returns-clause-shown
returns-clause-shown g c = c.remark.ensures.shown
