use Rattle.rb_view.proofs.ValueLaws.{text_is_of_rows}
use Rattle.rb_view.proofs.steps.laws.steps_are_rows.Goals as goal

pub returns : goal.returns
returns c = text_is_of_rows
