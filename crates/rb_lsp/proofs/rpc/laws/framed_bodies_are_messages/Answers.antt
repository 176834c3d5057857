use Rattle.rb_lsp.proofs.FrameLaws.{framed_is_message}
use Rattle.rb_lsp.proofs.rpc.laws.framed_bodies_are_messages.Goals as goal

pub returns : goal.returns
returns c = λ body rest small. framed_is_message body rest small
