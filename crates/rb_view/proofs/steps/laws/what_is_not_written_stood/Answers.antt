use Rattle.rb_view.proofs.ReadBackLaws.{stands_or_stood, views_end}
use Rattle.rb_view.proofs.steps.laws.what_is_not_written_stood.Goals as goal

pub returns-clause-stands : goal.returns-clause-stands
returns-clause-stands c = stands_or_stood

pub returns-clause-gone : goal.returns-clause-gone
returns-clause-gone c = views_end
