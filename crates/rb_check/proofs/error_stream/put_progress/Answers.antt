use Rattle.std.proofs.Common.{◌++◌}
use Rattle.std.specs.Prelude.{codes, decimal}
use Rattle.rb_text.proofs.SentLaws.{and_then, no_more}
use Rattle.rb_check.specs.Shown.{clearing}
use Rattle.rb_check.proofs.error_stream.put_progress.Goals as goal

pub returns-in_err-put_acting-clause-wrote : goal.returns-in_err-put_acting-clause-wrote
returns-in_err-put_acting-clause-wrote g c =
    no_more _ _ clearing (decimal c.args.done ++ (codes " of " ++ (decimal c.args.all ++ codes " scripts"))) c.from_residual.result c.from_residual.ensures.0 c.in_err-put_acting.ensures.wrote

pub returns-clause-wrote : goal.returns-clause-wrote
returns-clause-wrote g c =
    and_then _ _ _ clearing (decimal c.args.done ++ (codes " of " ++ (decimal c.args.all ++ codes " scripts"))) c.put_pieces.result c.in_ok-put_acting.ensures.wrote c.put_pieces.ensures.wrote
