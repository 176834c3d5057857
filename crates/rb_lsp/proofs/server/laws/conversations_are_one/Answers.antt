use Rattle.rb_lsp.proofs.OneLaws.{one_conversation}
use Rattle.rb_lsp.proofs.server.laws.conversations_are_one.Goals as goal

pub returns : goal.returns
returns c = λ meaning all reaches s t x y first second. one_conversation meaning all reaches s t x y first second
