use Rattle.std.proofs.Common.{decimal}
use Rattle.std.specs.Prelude.{codes}
use Rattle.std.specs.List.{flat_map}
use Rattle.rb_text.specs.Json.{in_page}
use Rattle.rb_text.proofs.SentLaws.{and_then, no_more}
use Rattle.rb_view.proofs.rows.span.U64TextPart.put.Goals as goal

pub returns-in_err-put_in_page-clause-wrote : goal.returns-in_err-put_in_page-clause-wrote
returns-in_err-put_in_page-clause-wrote g c =
    no_more _ _ (flat_map in_page (codes ",")) (flat_map in_page (decimal c.args.self.now)) _ c.from_residual.ensures.0 c.in_err-put_in_page.ensures.wrote

pub returns-clause-wrote : goal.returns-clause-wrote
returns-clause-wrote g c = and_then _ _ _ (flat_map in_page (codes ",")) (flat_map in_page (decimal c.args.self.now)) _ c.in_ok-put_in_page.ensures.wrote c.put_digits.ensures.wrote
