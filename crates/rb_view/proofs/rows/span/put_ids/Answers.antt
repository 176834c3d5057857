use Rattle.std.proofs.Common.{◌≡◌, ℕ, List, ◌∷◌, ◌++◌, ap, refl, sym, ◌∙◌, decimal}
use Rattle.std.specs.List.{flat_map}
use Rattle.std.proofs.lemmas.List.{nil_from_length}
use Rattle.std.proofs.lemmas.List.Concat.{flat_map-append}
use Rattle.rb_texts.specs.Configs.{ids_text}
use Rattle.rb_texts.proofs.PieceLaws.{ids_text-nil, ids_text-cons}
use Rattle.rb_view.specs.Commas.{comma_before}
use Rattle.rb_text.specs.Json.{in_page}
use Rattle.rb_text.proofs.SentLaws.{and_then, no_more, sent_all, sent_none, writes_along}
use Rattle.rb_view.proofs.rows.span.put_ids.Goals as goal

-- the ids are the first and the others
parted : (ids : List ℕ) (first : ℕ) (rest : List ℕ) → ids ≡ first ∷ rest → flat_map in_page (decimal first) ++ flat_map in_page (flat_map comma_before rest) ≡ flat_map in_page (ids_text ids)
parted ids first rest e = sym (ap (λ (l : List ℕ). flat_map in_page l) (ap ids_text e ∙ ids_text-cons first rest) ∙ flat_map-append in_page (decimal first) (flat_map comma_before rest))

pub returns-in_default-clause-wrote : goal.returns-in_default-clause-wrote
returns-in_default-clause-wrote g c =
    let whole = flat_map in_page (ids_text c.args.ids.now) in
    let none = ap (λ (l : List ℕ). flat_map in_page l) (ap ids_text (nil_from_length c.args.ids.now c.in_default.ensures.cases) ∙ ids_text-nil) in
    sent_all none (sent_none (g.S.Sink.held c.args.sink.now) whole whole refl)

pub returns-in_err-put_digits-clause-wrote : goal.returns-in_err-put_digits-clause-wrote
returns-in_err-put_digits-clause-wrote g c =
    writes_along _ _ _ _ _ (parted c.args.ids.now _ _ c.in-Some.ensures.cases.0) (no_more _ _ _ _ _ c.from_residual.ensures.0 c.in_err-put_digits.ensures.wrote)

pub returns-clause-wrote : goal.returns-clause-wrote
returns-clause-wrote g c = writes_along _ _ _ _ _ (parted c.args.ids.now _ _ c.in-Some.ensures.cases.0) (and_then _ _ _ _ _ _ c.in_ok-put_digits.ensures.wrote c.put_parts.ensures.wrote)
