use Rattle.std.proofs.Common.{◌∷◌, ℕ, List, ap, sym}
use Rattle.std.proofs.lemmas.Fmt.{decimal_digit}
use Rattle.rb_text.proofs.SentLaws.{writes_along}
use Rattle.rb_view.proofs.rows.number.put_number.Goals as goal

pub returns-then-n-lt10-clause-wrote : goal.returns-then-n-lt10-clause-wrote
returns-then-n-lt10-clause-wrote g c = writes_along _ _ _ _ _ (ap (λ (l : List ℕ). 44 ∷ l) (sym (decimal_digit c.args.n c.if-n-lt10.true))) c.put.ensures.wrote
