-- Names of a folder: those that are kept of its parts, and that sorted names, each once, are the same names.
use Rattle.std.proofs.Common.{◌≡◌, ◌∙◌, ℕ, zero, suc, ◌+◌, ◌<◌, Bool, true, false, Bor, List, [], ◌∷◌, ◌++◌, String, IsUtf8, ap, get_or, length, map, refl, string_bytes, sym, subst, take, arith}
use Rattle.std.specs.Prelude.{◌↔◌}
use Rattle.std.specs.Cmp.Lexicographic.{bytes_decides}
use Rattle.std.specs.List.{Contains, dedup}
use Rattle.std.specs.List.Sorted.{IsPermutation}
use Rattle.std.specs.Str.{is_utf8}
use Rattle.std.specs.String.{string_eq, string_eq_equiv}
use Rattle.std.specs.declared.alloc.Global.{Global}
use Rattle.std.proofs.lemmas.List.{map-append, take_more}
use Rattle.std.proofs.lemmas.List.Elements.{filter-append}
use Rattle.std.proofs.lemmas.List.Kept.{Any-dedup, Contains-from_dedup}
use Rattle.std.proofs.lemmas.List.Sorted.{Contains-permutation, IsPermutation-sym}
use Rattle.std.proofs.lemmas.Str.{IsUtf8-from_is_utf8, is_utf8-from_IsUtf8}
use Rattle.rb_files.specs.Names.{HasName, is_hidden, strange_names, text_names}

pub same_names : (old sorted new : List (String Global)) (name : List ℕ) → IsPermutation old sorted → new ≡ dedup string_eq sorted → HasName old name ↔ HasName new name
same_names old sorted new name moved is = (
  λ h. subst (λ (names : List (String Global)). HasName names name) (sym is) (stays h),
  λ h. leaves (subst (λ (names : List (String Global)). HasName names name) is h),
)
  where
    stays : HasName old name → HasName (dedup string_eq sorted) name
    stays h =
        let one = Any-dedup string_eq_equiv sorted h.1 (Contains-permutation old sorted h.1 moved (h.0, h.2, h.3)) in
        (one.0, one.1, one.2, one.3, sym ((bytes_decides (string_bytes h.1) (string_bytes one.1)).0 one.4) ∙ h.4)

    leaves : HasName (dedup string_eq sorted) name → HasName old name
    leaves h =
        let one = Contains-permutation sorted old h.1 (IsPermutation-sym old sorted moved) (Contains-from_dedup string_eq sorted h.1 (h.0, h.2, h.3)) in
        (one.0, h.1, one.1, one.2, h.4)

no_from : (b : Bool) → (b ≡ true → ⊥) → b ≡ false
no_from true h = absurd (h refl)
no_from false h = refl

-- what is kept of a name that isn't hidden: if it is text, and if it isn't
pub text_kept : (name : List ℕ) → is_hidden name ≡ false → IsUtf8 name → (text_names (name ∷ []) ≡ name ∷ []) × (strange_names (name ∷ []) ≡ [])
text_kept name seen text =
    let t : is_utf8 name ≡ true = is_utf8-from_IsUtf8 name text in
    (rw (seen, t) refl, rw (seen, t) refl)

pub strange_kept : (name : List ℕ) → is_hidden name ≡ false → (IsUtf8 name → ⊥) → (text_names (name ∷ []) ≡ []) × (strange_names (name ∷ []) ≡ name ∷ [])
strange_kept name seen none =
    let t : is_utf8 name ≡ false = no_from (is_utf8 name) (λ e. none (IsUtf8-from_is_utf8 name e)) in
    (rw (seen, t) refl, rw (seen, t) refl)

-- what is kept of one part more
pub text_more : (parts : List (Bor (List ℕ))) (i : ℕ) (d : Bor (List ℕ)) → i < length parts → text_names (map (λ p. p.now) (take (i + 1) parts)) ≡ text_names (map (λ p. p.now) (take i parts)) ++ text_names ((get_or parts i d).now ∷ [])
text_more parts i d within =
    ap (λ ps. text_names (map (λ p. p.now) ps)) (take_more parts i d within)
    ∙ ap text_names (map-append (λ p. p.now) (take i parts) (get_or parts i d ∷ []))
    ∙ filter-append _ (map (λ p. p.now) (take i parts)) ((get_or parts i d).now ∷ [])

pub strange_more : (parts : List (Bor (List ℕ))) (i : ℕ) (d : Bor (List ℕ)) → i < length parts → strange_names (map (λ p. p.now) (take (i + 1) parts)) ≡ strange_names (map (λ p. p.now) (take i parts)) ++ strange_names ((get_or parts i d).now ∷ [])
strange_more parts i d within =
    ap (λ ps. strange_names (map (λ p. p.now) ps)) (take_more parts i d within)
    ∙ ap strange_names (map-append (λ p. p.now) (take i parts) (get_or parts i d ∷ []))
    ∙ filter-append _ (map (λ p. p.now) (take i parts)) ((get_or parts i d).now ∷ [])

named : (names : List (String Global)) (name : List ℕ) → Contains (map string_bytes names) name → HasName names name
named [] name h = absurd (omega (arith, h.1))
named (s ∷ names) name (zero, l, e) = (zero, s, omega arith, refl, e)
named (s ∷ names) name (suc k, l, e) =
    let at = named names name (k, omega (arith, l), e) in
    (suc at.0, at.1, omega (arith, at.2), at.3, at.4)

holds : (names : List (String Global)) (name : List ℕ) → HasName names name → Contains (map string_bytes names) name
holds [] name h = absurd (omega (arith, h.2))
holds (s ∷ names) name (zero, x, l, e, b) = (zero, omega arith, ap string_bytes e ∙ b)
holds (s ∷ names) name (suc k, x, l, e, b) =
    let at = holds names name (k, x, omega (arith, l), e, b) in
    (suc at.0, omega (arith, at.1), at.2)

-- sorted names are those of the parts
pub listed_names : (old new : List (String Global)) (texts : List (List ℕ)) (name : List ℕ) → map string_bytes old ≡ texts → (HasName old name ↔ HasName new name) → Contains texts name ↔ HasName new name
listed_names old new texts name are same = (
  λ h. same.0 (named old name (subst (λ (ts : List (List ℕ)). Contains ts name) (sym are) h)),
  λ h. subst (λ (ts : List (List ℕ)). Contains ts name) are (holds old name (same.1 h)),
)
