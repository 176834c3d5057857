use Rattle.rb_laws.proofs.SafetyLaws.{chosen}
use Rattle.rb_laws.proofs.cluster.laws.leaders_are_chosen.Goals as goal

pub returns : goal.returns
returns c = λ s hs id term net leads. chosen net.members s hs id term net.single net.begun net.before leads
