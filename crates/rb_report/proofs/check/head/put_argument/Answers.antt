use Rattle.std.proofs.Common.{◌∙◌, sym}
use Rattle.rb_script.specs.Directive.{plain_argument}
use Rattle.rb_script.specs.Tokens.{plain}
use Rattle.rb_text.proofs.SentLaws.{and_then, no_more, writes_along}
use Rattle.rb_report.proofs.HeadLaws.{argument-with}
use Rattle.rb_report.proofs.check.head.put_argument.Goals as goal

pub returns-in_err-put_pieces-clause-wrote : goal.returns-in_err-put_pieces-clause-wrote
returns-in_err-put_pieces-clause-wrote g c =
    let is = argument-with (plain_argument (plain c.args.directive.now) c.args.argument) c.key-key.result.now c.key-key.ensures.plain (sym c.has_equals.ensures ∙ c.if-not-has_equals.false) in
    writes_along _ _ _ _ _ (sym is) (no_more _ _ _ _ _ c.from_residual.ensures.0 c.in_err-put_pieces.ensures.wrote)

pub returns-clause-wrote : goal.returns-clause-wrote
returns-clause-wrote g c =
    let is = argument-with (plain_argument (plain c.args.directive.now) c.args.argument) c.key-key.result.now c.key-key.ensures.plain (sym c.has_equals.ensures ∙ c.if-not-has_equals.false) in
    writes_along _ _ _ _ _ (sym is) (and_then _ _ _ _ _ _ c.in_ok-put_pieces.ensures.wrote c.put_values.ensures.wrote)
