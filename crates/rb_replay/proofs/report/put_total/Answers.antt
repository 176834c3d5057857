use Rattle.std.proofs.Common.{◌≡◌, ℕ, List, ◌++◌, ◌∷◌, [], append_assoc, sym}
use Rattle.std.specs.Prelude.{codes, decimal}
use Rattle.rb_text.proofs.SentLaws.{writes_along}
use Rattle.rb_replay.proofs.report.put_total.Goals as goal

parts : (a b c d e : List ℕ) → (((a ++ b) ++ c) ++ d) ++ e ≡ a ++ (b ++ (c ++ (d ++ e)))
parts a b c d e = simp append_assoc

pub returns-clause-wrote : goal.returns-clause-wrote
returns-clause-wrote g c =
    writes_along _ _ _ _ _ (sym (parts (decimal c.args.directives) (codes " directives, ") (decimal c.args.mismatches) (codes " mismatches")
    (10 ∷ []))) c.put_pieces.ensures.wrote
