use Rattle.rb_laws.proofs.SafetyLaws.{one_leader}
use Rattle.rb_laws.proofs.cluster.laws.elections_are_safe.Goals as goal

pub returns : goal.returns
returns c = λ s earlier later first second term net a b. one_leader net.members s earlier later first second term net.single net.begun net.before net.since a b
