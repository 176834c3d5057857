use Rattle.std.proofs.Common.{◌∙◌, sym}
use Rattle.rb_text.proofs.SentLaws.{writes_along}
use Rattle.rb_view.proofs.PlainLaws.{plain_stand}
use Rattle.rb_view.proofs.rows.plain.put_in_page.Goals as goal

pub returns-then-are_plain-clause-wrote : goal.returns-then-are_plain-clause-wrote
returns-then-are_plain-clause-wrote g c =
    writes_along _ _ _ _ _ (sym (plain_stand c.args.bytes.now (sym c.are_plain.ensures ∙ c.if-are_plain.true))) c.put.ensures.wrote
