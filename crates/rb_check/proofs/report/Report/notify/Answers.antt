use Rattle.std.proofs.Common.{◌∙◌}
use Rattle.rb_check.proofs.ShownLaws.{along, goes_lacking}
use Rattle.rb_check.proofs.report.Report.notify.Goals as goal

pub returns-in-Ok-clause-shown : goal.returns-in-Ok-clause-shown
returns-in-Ok-clause-shown g c = along (c.deref.ensures.value ∙ c.in-Ok.ensures) c.put.ensures.shown

pub returns-in-Err-clause-shown : goal.returns-in-Err-clause-shown
returns-in-Err-clause-shown g c = goes_lacking _ _ _ _ _ c.fail_for_memory.ensures.state
