use Rattle.rb_calls.proofs.CallLaws.{calls}
use Rattle.rb_laws.proofs.node.laws.leaders_are_elected.Goals as goal

pub returns : goal.returns
returns c = λ call t sound. ((calls call t).goes sound).led
