use Rattle.std.proofs.Common.{List, ℕ, Some, ap}
use Rattle.rb_lsp.specs.Methods.{method_of}
use Rattle.rb_lsp.specs.Replies.{sent}
use Rattle.rb_lsp.proofs.ReplyLaws.{same_answer}
use Rattle.rb_lsp.proofs.server.laws.texts_are_answered.Goals as goal

pub returns : goal.returns
returns c = λ meaning reach server other id method params phase same. ap (λ (body : List ℕ). sent (Some body)) (same_answer meaning reach server other (method_of method) params id phase same)
