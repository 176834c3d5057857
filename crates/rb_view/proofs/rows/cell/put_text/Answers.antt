use Rattle.rb_text.proofs.SentLaws.{and_then, no_more}
use Rattle.rb_view.proofs.rows.cell.put_text.Goals as goal

pub returns-in_err-put-clause-wrote : goal.returns-in_err-put-clause-wrote
returns-in_err-put-clause-wrote g c = no_more _ _ _ _ _ c.from_residual.ensures.0 c.in_err-put.ensures.wrote

pub returns-in_err-put_parts-clause-wrote : goal.returns-in_err-put_parts-clause-wrote
returns-in_err-put_parts-clause-wrote g c =
    and_then _ _ _ _ _ _ c.in_ok-put.ensures.wrote (no_more _ _ _ _ _ c.from_residual-in_err-put_parts.ensures.0 c.in_err-put_parts.ensures.wrote)

pub returns-clause-wrote : goal.returns-clause-wrote
returns-clause-wrote g c = and_then _ _ _ _ _ _ c.in_ok-put.ensures.wrote (and_then _ _ _ _ _ _ c.in_ok-put_parts.ensures.wrote c.put-2.ensures.wrote)
