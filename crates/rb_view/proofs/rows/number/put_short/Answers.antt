use Rattle.rb_text.proofs.SentLaws.{writes_along}
use Rattle.rb_view.proofs.DigitLaws.{four_digits, three_digits, two_digits}
use Rattle.rb_view.proofs.rows.number.put_short.Goals as goal

pub returns-then-n-lt100-clause-wrote : goal.returns-then-n-lt100-clause-wrote
returns-then-n-lt100-clause-wrote g c =
    writes_along _ _ _ _ _ (two_digits c.args.n _ _ c.requires.least c.if-n-lt100.true c.last_digit-tens.ensures c.last_digit-ones.ensures) c.put.ensures.wrote

pub returns-then-n-lt1000-clause-wrote : goal.returns-then-n-lt1000-clause-wrote
returns-then-n-lt1000-clause-wrote g c =
    writes_along _ _ _ _ _ (three_digits c.args.n _ _ _ c.if-n-lt100.false c.if-n-lt1000.true c.last_digit-hundreds.ensures c.last_digit-tens.ensures c.last_digit-ones.ensures) c.put-then-n-lt1000.ensures.wrote

pub returns-clause-wrote : goal.returns-clause-wrote
returns-clause-wrote g c =
    writes_along _ _ _ _ _ (four_digits c.args.n _ _ _ _ c.if-n-lt1000.false c.requires.most c.last_digit.ensures c.last_digit-hundreds.ensures c.last_digit-tens.ensures c.last_digit-ones.ensures) c.put-2.ensures.wrote
