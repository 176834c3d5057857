use Rattle.std.proofs.Common.{◌∙◌, sym}
use Rattle.rb_script.specs.Directive.{plain_argument}
use Rattle.rb_script.specs.Tokens.{plain}
use Rattle.rb_text.proofs.SentLaws.{and_then, no_more, writes_along}
use Rattle.rb_report.proofs.HeadLaws.{values-other}
use Rattle.rb_report.proofs.check.head.put_values.Goals as goal

pub returns-in_err-put-clause-wrote : goal.returns-in_err-put-clause-wrote
returns-in_err-put-clause-wrote g c =
    let is = values-other (plain_argument (plain c.args.directive.now) c.args.argument).values (λ e. c.if-values-eq1.false (c.values.ensures ∙ e)) in
    writes_along _ _ _ _ _ (sym is) (no_more _ _ _ _ _ c.from_residual.ensures.0 c.in_err-put.ensures.wrote)

pub returns-in_err-put_listed-clause-wrote : goal.returns-in_err-put_listed-clause-wrote
returns-in_err-put_listed-clause-wrote g c =
    let is = values-other (plain_argument (plain c.args.directive.now) c.args.argument).values (λ e. c.if-values-eq1.false (c.values.ensures ∙ e)) in
    writes_along _ _ _ _ _ (sym is) (and_then _ _ _ _ _ _ c.in_ok-put.ensures.wrote (no_more _ _ _ _ _ c.from_residual-in_err-put_listed.ensures.0 c.in_err-put_listed.ensures.wrote))

pub returns-clause-wrote : goal.returns-clause-wrote
returns-clause-wrote g c =
    let is = values-other (plain_argument (plain c.args.directive.now) c.args.argument).values (λ e. c.if-values-eq1.false (c.values.ensures ∙ e)) in
    writes_along _ _ _ _ _ (sym is) (and_then _ _ _ _ _ _ c.in_ok-put.ensures.wrote (and_then _ _ _ _ _ _ c.in_ok-put_listed.ensures.wrote c.put-3.ensures.wrote))
