use Rattle.rb_calls.proofs.CallLaws.{runs}
use Rattle.rb_laws.proofs.node.laws.leaders_were_candidates.Goals as goal

pub returns-clause-leader : goal.returns-clause-leader
returns-clause-leader c = λ cs t sound. ((runs cs t).goes sound).leader

pub returns-clause-candidate : goal.returns-clause-candidate
returns-clause-candidate c = λ cs t sound. ((runs cs t).goes sound).candidate
