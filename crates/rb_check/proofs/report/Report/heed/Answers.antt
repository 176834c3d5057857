use Rattle.rb_check.proofs.report.Report.heed.Goals as goal

pub returns-clause-harmless : goal.returns-clause-harmless
returns-clause-harmless g c = (c.showing_for-showing.result, c.shown_in-self.ensures, c.show_as.ensures.shown, c.showing_for-showing.ensures)
