use Rattle.rb_laws.proofs.OutgoingLaws.{goes_out, advances_alike}
use Rattle.rb_laws.proofs.node.actions.messages_go_out_once.Goals as goal

pub returns-clause-out : goal.returns-clause-out
returns-clause-out c = λ n. goes_out n

pub returns-clause-once : goal.returns-clause-once
returns-clause-once c = λ t sent waiting. advances_alike t sent waiting
