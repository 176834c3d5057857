use Rattle.rb_calls.proofs.CallLaws.{calls}
use Rattle.rb_laws.proofs.node.laws.votes_go_to_new_logs.Goals as goal

pub returns : goal.returns
returns c = λ call t sound. ((calls call t).goes sound).voted
