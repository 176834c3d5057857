use Rattle.rb_lsp.proofs.NoticeLaws.{diagnosed}
use Rattle.rb_lsp.specs.Methods.{method_of}
use Rattle.rb_lsp.proofs.server.laws.texts_are_diagnosed.Goals as goal

pub returns : goal.returns
returns c = λ meaning reach server next method params goes. diagnosed meaning reach server next (method_of method) params goes
