use Rattle.rb_report.specs.Counts.{totals_text}
use Rattle.rb_check.specs.declared.report_state.ReportForm.{ReportForm}
use Rattle.rb_check.proofs.ShownLaws.{goes_heeded, goes_on}
use Rattle.rb_check.proofs.running_check.RunningCheck.end_for_people.Goals as goal

pub returns-clause-shown : goal.returns-clause-shown
returns-clause-shown g c =
    goes_heeded c.heed.ensures.state c.heed.ensures.held (goes_on (λ (f : ReportForm). totals_text c.args.totals c.args.milliseconds) c.list_differing.ensures.shown c.show.ensures.shown)
