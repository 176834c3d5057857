use Rattle.rb_view.proofs.ValueLaws.{text_is_json}
use Rattle.rb_view.proofs.steps.laws.steps_are_json.Goals as goal

pub returns : goal.returns
returns c = text_is_json
