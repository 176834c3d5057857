use Rattle.std.proofs.Common.{ℕ, List, ◌++◌, ap}
use Rattle.rb_script.specs.Tokens.{plain}
use Rattle.rb_report.specs.Heads.{arguments_text}
use Rattle.rb_text.proofs.SentLaws.{and_then, no_more, writes_along}
use Rattle.rb_report.proofs.check.head.put_head.Goals as goal

pub returns-in_err-put-clause-wrote : goal.returns-in_err-put-clause-wrote
returns-in_err-put-clause-wrote g c =
    let is = ap (λ (n : List ℕ). n ++ arguments_text (plain c.args.directive.now).args) c.name.ensures.name in
    writes_along _ _ _ _ _ is (no_more _ _ _ _ _ c.from_residual.ensures.0 c.in_err-put.ensures.wrote)

pub returns-clause-wrote : goal.returns-clause-wrote
returns-clause-wrote g c =
    let is = ap (λ (n : List ℕ). n ++ arguments_text (plain c.args.directive.now).args) c.name.ensures.name in
    writes_along _ _ _ _ _ is (and_then _ _ _ _ _ _ c.in_ok-put.ensures.wrote c.put_arguments.ensures.wrote)
