use Rattle.rb_text.proofs.SentLaws.{and_then, no_more}
use Rattle.rb_view.proofs.chart.path.DrawnArrowWrittenPiece.put.Goals as goal

pub returns-in_err-put_path-clause-wrote : goal.returns-in_err-put_path-clause-wrote
returns-in_err-put_path-clause-wrote g c = no_more _ _ _ _ _ c.from_residual.ensures.0 c.in_err-put_path.ensures.wrote

pub returns-clause-wrote : goal.returns-clause-wrote
returns-clause-wrote g c = and_then _ _ _ _ _ _ c.in_ok-put_path.ensures.wrote c.put_cross.ensures.wrote
