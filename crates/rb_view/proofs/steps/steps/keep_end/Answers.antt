use Rattle.std.proofs.Common.{◌∙◌, ◌++◌, ◌∷◌, [], ℕ, List, length, ap₂}
use Rattle.std.specs.Prelude.{codes}
use Rattle.rb_view.specs.Rows.{next_text, number, row}
use Rattle.rb_view.proofs.steps.steps.keep_end.Goals as goal

pub returns : goal.returns
returns g c =
    c.in_ok-keep_row.ensures
    ∙ ap₂ (λ (n : ℕ) (ks : List ℕ). c.args.texts.now ++ next_text (row (codes "end") (number n ∷ number (length ks) ∷ [])) ∷ []) c.len.ensures.len c.mismatches.ensures
