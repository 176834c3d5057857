use Rattle.std.proofs.Common.{◌∙◌, ◌++◌, ◌∷◌, [], ℕ, List, map, ap, append_assoc}
use Rattle.rb_script.specs.Lines.{Line}
use Rattle.rb_report.proofs.CellLaws.{then_is}
use Rattle.rb_view.specs.Kept.{texts_of}
use Rattle.rb_view.specs.SomeSteps.{cells_row, left_in}
use Rattle.rb_view.specs.Steps.{end_row, warning_row}
use Rattle.rb_view.proofs.steps.some.keep_after.Goals as goal

pub returns : goal.returns
returns g c =
    let s = c.args.session.now.script in
    let cells = texts_of (cells_row (left_in s) ∷ []) in
    let doubts = texts_of (map warning_row c.args.warnings.now) in
    let last = texts_of (end_row s ∷ []) in
    then_is c.keep_end.result c.keep_end.new.texts _ _ c.keep_end.ensures
    (ap (λ (l : List Line). l ++ last) (c.in_ok-keep_warnings.ensures ∙ ap (λ (l : List Line). l ++ doubts) (c.in_ok-keep_cells.ensures ∙ ap (λ (n : ℕ). c.args.texts.now ++ texts_of (cells_row n ∷ [])) c.requires))
    ∙ append_assoc (c.args.texts.now ++ cells) doubts last ∙ append_assoc c.args.texts.now cells (doubts ++ last))
