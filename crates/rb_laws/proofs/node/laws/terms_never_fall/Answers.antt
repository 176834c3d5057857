use Rattle.rb_calls.proofs.CallLaws.{runs}
use Rattle.rb_laws.proofs.node.laws.terms_never_fall.Goals as goal

pub returns-clause-term : goal.returns-clause-term
returns-clause-term c = λ cs t sound. ((runs cs t).goes sound).term

pub returns-clause-id : goal.returns-clause-id
returns-clause-id c = λ cs t sound. ((runs cs t).goes sound).id
