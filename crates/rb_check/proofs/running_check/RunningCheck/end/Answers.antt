use Rattle.std.proofs.Common.{◌++◌, ap}
use Rattle.rb_report.specs.declared.check.totals.Totals.{Totals}
use Rattle.rb_report.specs.Counts.{totals_text}
use Rattle.rb_check.specs.Shown.{ending, listed_text}
use Rattle.rb_check.proofs.ShownLaws.{along, to_people, to_programs}
use Rattle.rb_check.proofs.running_check.RunningCheck.end.Goals as goal

pub returns-in-Some-clause-shown : goal.returns-in-Some-clause-shown
returns-in-Some-clause-shown g c = to_programs _ _ c.in-Some.format c.in-Some.is (along (ap (λ (t : Totals). ending t c.in-Some.format) c.totals-totals.ensures) c.end_for_programs.ensures.shown)

pub returns-in-None-clause-shown : goal.returns-in-None-clause-shown
returns-in-None-clause-shown g c =
    let self = c.args.self.now in
    to_people _ _ c.in-None.is (along (ap (λ (t : Totals). listed_text c.args.lists_differing self.results.differing.items ++ totals_text t c.args.milliseconds) c.totals-totals.ensures) c.end_for_people.ensures.shown)
