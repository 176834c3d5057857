use Rattle.rb_text.proofs.SentLaws.{and_then, no_more}
use Rattle.rb_report.proofs.check.left.put_left.Goals as goal

pub returns-in_err-put_heading-clause-wrote : goal.returns-in_err-put_heading-clause-wrote
returns-in_err-put_heading-clause-wrote g c = no_more _ _ _ _ _ c.from_residual.ensures.0 c.in_err-put_heading.ensures.wrote

pub returns-clause-wrote : goal.returns-clause-wrote
returns-clause-wrote g c = and_then _ _ _ _ _ _ c.in_ok-put_heading.ensures.wrote c.put_pieces.ensures.wrote
