use Rattle.std.proofs.Common.{◌∙◌, ℕ, List, ap}
use Rattle.std.specs.List.{list_all}
use Rattle.rb_view.specs.Escapes.{is_inert}
use Rattle.rb_view.proofs.InertLaws.{rows_inert}
use Rattle.rb_view.specs.Pages.{first_row}
use Rattle.rb_view.proofs.ValueLaws.{text_is_of_rows}
use Rattle.rb_view.proofs.steps.laws.steps_are_inert.Goals as goal

pub returns : goal.returns
returns c = λ name bytes heads s.
    let t = text_is_of_rows name bytes heads s in
    ap (λ (l : List ℕ). list_all is_inert l) t.1 ∙ rows_inert (first_row name) t.0
