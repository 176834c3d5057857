use Rattle.std.proofs.Common.{refl}
use Rattle.rb_lsp.specs.Methods.{method_of}
use Rattle.rb_lsp.specs.Replies.{answer_body}
use Rattle.rb_lsp.proofs.ReplyLaws.{answer_has_id}
use Rattle.rb_lsp.proofs.server.laws.requests_have_one_answer.Goals as goal

pub returns : goal.returns
returns c = λ meaning reach server id method params. (answer_body meaning reach server (method_of method) params id, refl, answer_has_id meaning reach server (method_of method) params id)
