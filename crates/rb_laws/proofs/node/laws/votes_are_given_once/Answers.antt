use Rattle.rb_calls.proofs.CallLaws.{runs}
use Rattle.rb_laws.proofs.node.laws.votes_are_given_once.Goals as goal

pub returns : goal.returns
returns c = λ cs t sound. ((runs cs t).goes sound).vote
