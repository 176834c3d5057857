use Rattle.std.proofs.Common.{◌≡◌, ℕ, List, ◌++◌, ap, sym, ◌∙◌, decimal}
use Rattle.std.specs.Prelude.{codes}
use Rattle.std.specs.List.{flat_map}
use Rattle.std.proofs.lemmas.List.Concat.{flat_map-append}
use Rattle.rb_text.specs.Json.{in_page}
use Rattle.rb_text.proofs.SentLaws.{and_then, no_more, writes_along}
use Rattle.rb_texts.specs.Entries.{letter}
use Rattle.rb_view.proofs.rows.span.WordTextPart.put.Goals as goal

-- the letter and the id, as they go out
parted : (front word : List ℕ) (id : ℕ) → front ≡ word → flat_map in_page front ++ flat_map in_page (decimal id) ≡ flat_map in_page (word ++ decimal id)
parted front word id e = ap (λ (l : List ℕ). flat_map in_page l ++ flat_map in_page (decimal id)) e ∙ sym (flat_map-append in_page word (decimal id))

pub returns-in_err-put_in_page-clause-wrote : goal.returns-in_err-put_in_page-clause-wrote
returns-in_err-put_in_page-clause-wrote g c =
    let w = c.args.self.now in
    writes_along _ _ _ _ _ (parted c.letter.result.now (codes " " ++ letter w.kind) w.id c.letter.ensures) (no_more _ _ _ _ _ c.from_residual.ensures.0 c.in_err-put_in_page.ensures.wrote)

pub returns-clause-wrote : goal.returns-clause-wrote
returns-clause-wrote g c =
    let w = c.args.self.now in
    writes_along _ _ _ _ _ (parted c.letter.result.now (codes " " ++ letter w.kind) w.id c.letter.ensures) (and_then _ _ _ _ _ _ c.in_ok-put_in_page.ensures.wrote c.put_digits.ensures.wrote)
