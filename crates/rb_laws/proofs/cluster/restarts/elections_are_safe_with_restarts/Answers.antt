use Rattle.rb_laws.proofs.RestartMoments.{one_leader}
use Rattle.rb_laws.proofs.cluster.restarts.elections_are_safe_with_restarts.Goals as goal

pub returns : goal.returns
returns c = λ s earlier later first second term net a b. one_leader net.members s earlier later first second term net.single net.begun net.before net.since a b
