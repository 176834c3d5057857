use Rattle.rb_view.proofs.PendingArrows.{shows_after, shows_coming_in, shows_empty}
use Rattle.rb_view.proofs.chart.laws.what_waits_is_pending.Goals as goal

pub returns-clause-empty : goal.returns-clause-empty
returns-clause-empty c = shows_empty

pub returns-clause-coming : goal.returns-clause-coming
returns-clause-coming c = shows_coming_in

pub returns-clause-after : goal.returns-clause-after
returns-clause-after c = shows_after
