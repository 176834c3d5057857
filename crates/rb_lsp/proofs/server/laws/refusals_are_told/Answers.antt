use Rattle.rb_lsp.proofs.RefusalLaws.{refusal_told}
use Rattle.rb_lsp.proofs.server.laws.refusals_are_told.Goals as goal

pub returns : goal.returns
returns c = λ meaning reach server what. refusal_told meaning reach server what
