use Rattle.rb_lsp.proofs.MessageLaws.{one_message}
use Rattle.rb_lsp.proofs.rpc.laws.messages_are_one.Goals as goal

pub returns : goal.returns
returns c = λ bytes a b x y first second. one_message bytes a b x y first second
