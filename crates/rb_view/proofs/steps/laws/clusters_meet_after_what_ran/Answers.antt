use Rattle.rb_view.proofs.StayLaws.{clusters_meet, stays_around}
use Rattle.rb_view.proofs.steps.laws.clusters_meet_after_what_ran.Goals as goal

pub returns-clause-clusters : goal.returns-clause-clusters
returns-clause-clusters c = clusters_meet

pub returns-clause-around : goal.returns-clause-around
returns-clause-around c = stays_around
