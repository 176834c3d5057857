use Rattle.rb_view.proofs.StayLaws.{near}
use Rattle.rb_view.proofs.steps.laws.few_run_before.Goals as goal

pub returns : goal.returns
returns c = near
