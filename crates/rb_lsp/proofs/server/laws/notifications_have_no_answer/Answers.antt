use Rattle.std.proofs.Common.{refl}
use Rattle.rb_lsp.proofs.server.laws.notifications_have_no_answer.Goals as goal

pub returns : goal.returns
returns c = λ meaning reach server. (λ method params. refl, refl)
