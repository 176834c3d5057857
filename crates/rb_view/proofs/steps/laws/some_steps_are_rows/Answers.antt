use Rattle.rb_view.proofs.SomeLaws.{some_is_rows}
use Rattle.rb_view.proofs.steps.laws.some_steps_are_rows.Goals as goal

pub returns : goal.returns
returns c = some_is_rows
