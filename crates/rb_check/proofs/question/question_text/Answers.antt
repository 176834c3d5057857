use Rattle.std.proofs.Common.{◌∙◌, ◌++◌, ℕ, List, ap}
use Rattle.rb_check.specs.Reviews.{question_text}
use Rattle.rb_check.proofs.question.question_text.Goals as goal

pub returns : goal.returns
returns c = c.in_ok-add_pieces.ensures ∙ ap (λ (t : List ℕ). t ++ question_text c.args.number c.args.count) c.new-text.ensures.items
