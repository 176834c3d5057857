use Rattle.std.proofs.Common.{Bool, ◌++◌, ap}
use Rattle.rb_text.proofs.SentLaws.{and_then, no_more, writes_along}
use Rattle.rb_report.specs.Steps.{step_text}
use Rattle.rb_report.specs.Whys.{reasons_in, reason_on}
use Rattle.rb_report.proofs.check.why.put_explained_line.Goals as goal

pub returns-in_err-put_line-clause-wrote : goal.returns-in_err-put_line-clause-wrote
returns-in_err-put_line-clause-wrote g c =
    let v = c.args.view in
    writes_along _ _ _ _ _ (ap (λ (t : Bool). step_text v.colors c.args.side t c.args.line.now ++ reason_on c.args.side (reasons_in v.why) c.args.position) c.is_below_delivery-delivered.ensures)
    (no_more _ _ _ _ _ c.from_residual.ensures.0 c.in_err-put_line.ensures.wrote)

pub returns-clause-wrote : goal.returns-clause-wrote
returns-clause-wrote g c =
    let v = c.args.view in
    writes_along _ _ _ _ _ (ap (λ (t : Bool). step_text v.colors c.args.side t c.args.line.now ++ reason_on c.args.side (reasons_in v.why) c.args.position) c.is_below_delivery-delivered.ensures)
    (and_then _ _ _ _ _ _ c.in_ok-put_line.ensures.wrote c.put_reason_on.ensures.wrote)
