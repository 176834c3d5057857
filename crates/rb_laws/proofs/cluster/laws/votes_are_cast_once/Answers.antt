use Rattle.rb_laws.proofs.SafetyLaws.{cast_once}
use Rattle.rb_laws.proofs.cluster.laws.votes_are_cast_once.Goals as goal

pub returns : goal.returns
returns c = λ s hs voter term first second net a b. cast_once net.members s hs voter term first second net.single net.begun net.before a b
