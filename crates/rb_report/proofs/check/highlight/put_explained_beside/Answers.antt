use Rattle.std.proofs.Common.{Bool, ◌++◌, ap}
use Rattle.rb_text.proofs.SentLaws.{and_then, no_more, writes_along}
use Rattle.rb_report.specs.Steps.{step_beside}
use Rattle.rb_report.specs.Whys.{reasons_in, reason_on}
use Rattle.rb_report.proofs.check.highlight.put_explained_beside.Goals as goal

pub returns-in_err-put_beside-clause-wrote : goal.returns-in_err-put_beside-clause-wrote
returns-in_err-put_beside-clause-wrote g c =
    writes_along _ _ _ _ _ (ap (λ (t : Bool). step_beside c.args.side t c.args.line.now c.args.other.now ++ reason_on c.args.side (reasons_in c.args.why) c.args.position) c.is_below_delivery.ensures)
    (no_more _ _ _ _ _ c.from_residual.ensures.0 c.in_err-put_beside.ensures.wrote)

pub returns-clause-wrote : goal.returns-clause-wrote
returns-clause-wrote g c =
    writes_along _ _ _ _ _ (ap (λ (t : Bool). step_beside c.args.side t c.args.line.now c.args.other.now ++ reason_on c.args.side (reasons_in c.args.why) c.args.position) c.is_below_delivery.ensures)
    (and_then _ _ _ _ _ _ c.in_ok-put_beside.ensures.wrote c.put_reason_on.ensures.wrote)
