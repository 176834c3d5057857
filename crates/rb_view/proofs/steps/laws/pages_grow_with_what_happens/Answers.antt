use Rattle.rb_view.proofs.StepSizeLaws.{text_short, view_said}
use Rattle.rb_view.proofs.steps.laws.pages_grow_with_what_happens.Goals as goal

pub returns-clause-text : goal.returns-clause-text
returns-clause-text c = text_short

pub returns-clause-views : goal.returns-clause-views
returns-clause-views c = view_said
