use Rattle.std.proofs.Common.{◌∙◌, ◌++◌, List, ap, ap₂}
use Rattle.rb_script.specs.Lines.{Line}
use Rattle.rb_report.specs.Hints.{PlainHint}
use Rattle.rb_view.specs.Kept.{texts_of}
use Rattle.rb_view.specs.Meant.{hint_rows}
use Rattle.rb_view.specs.Steps.{left_next, script_rows}
use Rattle.rb_view.proofs.steps.step.keep_ran.Goals as goal

pub returns-clause-texts : goal.returns-clause-texts
returns-clause-texts c =
    let left = c.args.table.now.left in
    c.in_ok-keep_hint.ensures.texts
    ∙ ap₂ (λ (ts : List Line) (h : PlainHint). ts ++ texts_of (hint_rows h))
    (c.in_ok-keep_texts.ensures
    ∙ ap (λ (ts : List Line). ts ++ c.args.rows.now)
    (c.in_ok-keep_script.ensures.texts ∙ ap (λ (es : List Line). c.args.texts.now ++ texts_of (script_rows left c.args.place.line es c.args.output.now)) c.expected.ensures))
    c.hint_of.ensures

pub returns-clause-left : goal.returns-clause-left
returns-clause-left c =
    c.in_ok-keep_script.ensures.left ∙ ap (λ (es : List Line). left_next c.args.table.now.left es c.args.output.now) c.expected.ensures
