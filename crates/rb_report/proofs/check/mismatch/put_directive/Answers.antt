use Rattle.std.proofs.Common.{ℕ, List, [], ◌++◌, ◌∙◌, ap}
use Rattle.rb_script.specs.Lines.{Line}
use Rattle.rb_text.proofs.SentLaws.{and_then, no_more, writes_along}
use Rattle.rb_report.specs.declared.check.colors.Colors.TheVariants.{Off}
use Rattle.rb_report.specs.declared.check.position.DiffPosition.{DiffPosition}
use Rattle.rb_report.specs.declared.check.side.Side.TheVariants.{Both}
use Rattle.rb_report.specs.Diffs.{on_side, diff_text}
use Rattle.rb_report.specs.Hints.{hint_text, plain_hint}
use Rattle.rb_report.specs.LineRanges.{in_range}
use Rattle.rb_report.specs.Whys.{told_lines}
use Rattle.rb_report.proofs.AddedLaws.{plain-lines}
use Rattle.rb_report.proofs.check.mismatch.put_directive.Goals as goal

pub returns-in_err-put_heading-clause-wrote : goal.returns-in_err-put_heading-clause-wrote
returns-in_err-put_heading-clause-wrote g c = no_more _ _ _ _ _ c.from_residual.ensures.0 c.in_err-put_heading.ensures.wrote

pub returns-in_err-put-clause-wrote : goal.returns-in_err-put-clause-wrote
returns-in_err-put-clause-wrote g c = and_then _ _ _ _ _ _ c.in_ok-put_heading.ensures.wrote (no_more _ _ _ _ _ c.from_residual-in_err-put.ensures.0 c.in_err-put.ensures.wrote)

pub returns-in_err-put_explained_lines-clause-wrote : goal.returns-in_err-put_explained_lines-clause-wrote
returns-in_err-put_explained_lines-clause-wrote g c =
    let is = ap (λ (p : DiffPosition). told_lines Off Both [] p (in_range c.whole.result)) c.start.ensures ∙ plain-lines Off Both 0 (in_range c.whole.result) ∙ ap (λ (ls : List Line). diff_text Off (on_side Both ls)) c.whole.ensures.all in
    let shown = ap (λ (l : List ℕ). l ++ hint_text (plain_hint c.args.hint)) is in
    and_then _ _ _ _ _ _ c.in_ok-put_heading.ensures.wrote (and_then _ _ _ _ _ _ c.in_ok-put.ensures.wrote (writes_along _ _ _ _ _ shown (no_more _ _ _ _ _ c.from_residual-in_err-put_explained_lines.ensures.0 c.in_err-put_explained_lines.ensures.wrote)))

pub returns-clause-wrote : goal.returns-clause-wrote
returns-clause-wrote g c =
    let is = ap (λ (p : DiffPosition). told_lines Off Both [] p (in_range c.whole.result)) c.start.ensures ∙ plain-lines Off Both 0 (in_range c.whole.result) ∙ ap (λ (ls : List Line). diff_text Off (on_side Both ls)) c.whole.ensures.all in
    let shown = ap (λ (l : List ℕ). l ++ hint_text (plain_hint c.args.hint)) is in
    and_then _ _ _ _ _ _ c.in_ok-put_heading.ensures.wrote (and_then _ _ _ _ _ _ c.in_ok-put.ensures.wrote (writes_along _ _ _ _ _ shown (and_then _ _ _ _ _ _ c.in_ok-put_explained_lines.ensures.wrote c.put_hint.ensures.wrote)))
