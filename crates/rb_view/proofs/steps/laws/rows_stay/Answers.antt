use Rattle.rb_view.proofs.StayLaws.{steps_stay}
use Rattle.rb_view.proofs.steps.laws.rows_stay.Goals as goal

pub returns : goal.returns
returns c = steps_stay
