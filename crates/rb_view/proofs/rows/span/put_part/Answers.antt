use Rattle.std.proofs.Common.{◌≡◌, ℕ, true, false, List, [], ◌∷◌, ◌++◌, length, refl, ap, sym, ◌∙◌, append_assoc, arith}
use Rattle.std.specs.Prelude.{◌==◌, codes}
use Rattle.std.specs.List.{flat_map}
use Rattle.std.proofs.lemmas.Bool.{eqb-true, false≢true}
use Rattle.std.proofs.lemmas.List.Concat.{flat_map-append}
use Rattle.rb_texts.specs.Configs.{ids_text, part_text}
use Rattle.rb_text.specs.Json.{in_page}
use Rattle.rb_text.proofs.SentLaws.{and_then, no_more, sent_all, sent_none, writes_along}
use Rattle.rb_view.proofs.rows.span.put_part.Goals as goal

part_none : (name ids : List ℕ) → (length ids == 0) ≡ true → part_text name ids ≡ []
part_none name [] h = refl
part_none name (id ∷ ids) h = let none : length (id ∷ ids) ≡ 0 = eqb-true (length (id ∷ ids)) 0 h in absurd (omega (arith, none))

part_some : (name ids : List ℕ) → (length ids == 0) ≡ false → part_text name ids ≡ (name ++ ids_text ids) ++ codes ")"
part_some name [] h = absurd (false≢true (sym h))
part_some name (id ∷ ids) h = refl

-- a part in the parts in which it goes out
parted : (name ids : List ℕ) → (length ids == 0) ≡ false → flat_map in_page name ++ (flat_map in_page (ids_text ids) ++ flat_map in_page (codes ")")) ≡ flat_map in_page (part_text name ids)
parted name ids h =
    ap (λ (l : List ℕ). flat_map in_page name ++ l) (sym (flat_map-append in_page (ids_text ids) (codes ")"))) ∙ sym (flat_map-append in_page name (ids_text ids ++ codes ")"))
    ∙ ap (λ (l : List ℕ). flat_map in_page l) (sym (part_some name ids h ∙ append_assoc name (ids_text ids) (codes ")")))

pub returns-then-is_empty-clause-wrote : goal.returns-then-is_empty-clause-wrote
returns-then-is_empty-clause-wrote g c =
    let whole = flat_map in_page (part_text c.args.name.now c.args.ids.now) in
    sent_all (ap (λ (l : List ℕ). flat_map in_page l) (part_none c.args.name.now c.args.ids.now (sym c.is_empty.ensures ∙ c.if-is_empty.true))) (sent_none (g.S.Sink.held c.args.sink.now) whole whole refl)

pub returns-in_err-put_in_page-clause-wrote : goal.returns-in_err-put_in_page-clause-wrote
returns-in_err-put_in_page-clause-wrote g c =
    writes_along _ _ _ _ _ (parted c.args.name.now c.args.ids.now (sym c.is_empty.ensures ∙ c.if-is_empty.false)) (no_more _ _ _ _ _ c.from_residual.ensures.0 c.in_err-put_in_page.ensures.wrote)

pub returns-in_err-put_ids-clause-wrote : goal.returns-in_err-put_ids-clause-wrote
returns-in_err-put_ids-clause-wrote g c =
    writes_along _ _ _ _ _ (parted c.args.name.now c.args.ids.now (sym c.is_empty.ensures ∙ c.if-is_empty.false))
    (and_then _ _ _ _ _ _ c.in_ok-put_in_page.ensures.wrote (no_more _ _ _ _ _ c.from_residual-in_err-put_ids.ensures.0 c.in_err-put_ids.ensures.wrote))

pub returns-clause-wrote : goal.returns-clause-wrote
returns-clause-wrote g c =
    writes_along _ _ _ _ _ (parted c.args.name.now c.args.ids.now (sym c.is_empty.ensures ∙ c.if-is_empty.false))
    (and_then _ _ _ _ _ _ c.in_ok-put_in_page.ensures.wrote (and_then _ _ _ _ _ _ c.in_ok-put_ids.ensures.wrote c.put_in_page-2.ensures.wrote))
