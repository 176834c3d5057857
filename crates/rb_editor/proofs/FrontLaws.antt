-- The lines that two lists share at their front.
use Rattle.std.proofs.Common.{◌≡◌, ◌∙◌, ℕ, suc, ◌+◌, ◌≤◌, Bool, true, false, List, [], ◌∷◌, length, drop, min, Some, inl, inr, refl, ap, ap₂, arith}
use Rattle.std.specs.Prelude.{slice_get, if◌then◌else◌}
use Rattle.std.specs.Str.{bytes_eq}
use Rattle.std.proofs.lemmas.Bool.{cases_lt}
use Rattle.std.proofs.lemmas.List.{drop_all}
use Rattle.rb_script.specs.Lines.{Line}
use Rattle.rb_text.proofs.SentLaws.{drop-get}
use Rattle.rb_editor.specs.Findings.{common_front}

next : (xs ys : List Line) (i : ℕ) (x y : Line) → slice_get xs i ≡ Some x → slice_get ys i ≡ Some y
    → common_front (drop i xs) (drop i ys) ≡ (if bytes_eq x y then suc (common_front (drop (i + 1) xs) (drop (i + 1) ys)) else 0)
next xs ys i x y one other = ap₂ common_front (drop-get xs i x one) (drop-get ys i y other)

pub front_next : (xs ys : List Line) (i : ℕ) (x y : Line) → slice_get xs i ≡ Some x → slice_get ys i ≡ Some y → bytes_eq x y ≡ true
    → common_front (drop i xs) (drop i ys) ≡ suc (common_front (drop (i + 1) xs) (drop (i + 1) ys))
front_next xs ys i x y one other same = next xs ys i x y one other ∙ ap (λ (b : Bool). if b then suc (common_front (drop (i + 1) xs) (drop (i + 1) ys)) else 0) same

pub front_here : (xs ys : List Line) (i : ℕ) (x y : Line) → slice_get xs i ≡ Some x → slice_get ys i ≡ Some y → bytes_eq x y ≡ false → common_front (drop i xs) (drop i ys) ≡ 0
front_here xs ys i x y one other differs = next xs ys i x y one other ∙ ap (λ (b : Bool). if b then suc (common_front (drop (i + 1) xs) (drop (i + 1) ys)) else 0) differs

-- one of them has no more
none_left : (xs ys : List Line) → xs ≡ [] → common_front xs ys ≡ 0
none_left [] ys none = refl
none_left (x ∷ xs) ys none = absurd cc

none_right : (xs ys : List Line) → ys ≡ [] → common_front xs ys ≡ 0
none_right [] ys none = refl
none_right (x ∷ xs) [] none = refl
none_right (x ∷ xs) (y ∷ ys) none = absurd cc

pub shorter_done : (xs ys : List Line) (i : ℕ) → min (length xs) (length ys) ≤ i → common_front (drop i xs) (drop i ys) ≡ 0
shorter_done xs ys i past =
    elim (cases_lt i (length xs)) [
      | inl more ↦ none_right (drop i xs) (drop i ys) (drop_all i ys (omega (arith, past, more)))
      | inr left ↦ none_left (drop i xs) (drop i ys) (drop_all i xs left)
    ]
