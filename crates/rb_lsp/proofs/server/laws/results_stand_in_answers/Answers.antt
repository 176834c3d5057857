use Rattle.std.proofs.Common.{ℕ, List, ◌++◌, ap, append_assoc}
use Rattle.std.specs.Prelude.{codes}
use Rattle.serde_json.specs.Written.{compact_text}
use Rattle.serde_json.proofs.OnLiterals.{serde_json_on_literals}
use Rattle.rb_lsp.specs.Questions.{answer_text, body_text}
use Rattle.rb_lsp.proofs.server.laws.results_stand_in_answers.Goals as goal

pub returns : goal.returns
unfolding answer_text body_text serde_json_on_literals
returns c = λ id result.
    ap (λ (l : List ℕ). codes "{\"id\":" ++ l) (append_assoc (compact_text id) (codes ",\"jsonrpc\":\"2.0\",\"result\":") (compact_text result ++ codes "}"))
