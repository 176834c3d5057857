use Rattle.rb_laws.proofs.TruthLaws.{sent_true, waiting_true}
use Rattle.rb_laws.proofs.node.laws.messages_are_true.Goals as goal

pub returns-clause-sent : goal.returns-clause-sent
returns-clause-sent c = λ cs t. sent_true cs t

pub returns-clause-waiting : goal.returns-clause-waiting
returns-clause-waiting c = λ cs t. waiting_true cs t
