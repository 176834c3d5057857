use Rattle.rb_laws.proofs.RestartMoments.{leads_after, leads_before}
use Rattle.rb_laws.proofs.cluster.restarts.leaders_have_what_is_committed_with_restarts.Goals as goal

pub returns-clause-after : goal.returns-clause-after
returns-clause-after c = leads_after

pub returns-clause-before : goal.returns-clause-before
returns-clause-before c = leads_before
