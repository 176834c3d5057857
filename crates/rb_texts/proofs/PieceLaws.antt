-- Texts that join a line one after the other, and texts of lists.
use Rattle.std.proofs.Common.{◌≡◌, ℕ, ◌<◌, ◌≤◌, ◌^◌, ◌+◌, ◌/◌, ◌%◌, List, [], ◌∷◌, ◌++◌, length, take, get_or, decimal, refl, ap, sym, ◌∙◌, append_assoc, append-nil, arith}
use Rattle.std.proofs.lemmas.Fmt.{decimal_digit, decimal_step}
use Rattle.std.proofs.lemmas.List.{take_more}
use Rattle.std.proofs.lemmas.List.Concat.{flat_map-append}
use Rattle.std.specs.List.{flat_map}
use Rattle.rb_texts.specs.Configs.{ids_text}

-- texts that join the line in two steps
pub added_twice : (before now after a b : List ℕ) → now ≡ before ++ a → after ≡ now ++ b → after ≡ before ++ (a ++ b)
added_twice before now after a b first second = second ∙ ap (λ (l : List ℕ). l ++ b) first ∙ append_assoc before a b

-- a number of two digits
pub two_digits : (n : ℕ) → 10 ≤ n → n < 100 → decimal n ≡ (48 + n / 10) ∷ (48 + n % 10) ∷ []
two_digits n least most =
    let small : n < 2 ^ 64 = omega arith in
    let first : n / 10 < 10 = omega arith in
    (decimal_step n least small) ∙ ap (λ (l : List ℕ). l ++ (48 + n % 10) ∷ []) (decimal_digit (n / 10) first)

-- a further id
abbrev pub comma_before : ℕ → List ℕ
comma_before id = 44 ∷ decimal id

-- no ids have no text
pub ids_text-nil : ids_text [] ≡ []
unfolding ids_text
ids_text-nil = refl

-- each id but the first stands after a comma
pub ids_text-cons : (id : ℕ) (ids : List ℕ) → ids_text (id ∷ ids) ≡ decimal id ++ flat_map comma_before ids
unfolding ids_text
ids_text-cons id [] = sym (append-nil (decimal id))
ids_text-cons id (other ∷ ids) = ap (λ (l : List ℕ). decimal id ++ (44 ∷ l)) (ids_text-cons other ids)

-- the text of one element more
pub flat_map-take : {X : Type 0} (f : X → List ℕ) (xs : List X) (i : ℕ) (d : X) → i < length xs → flat_map f (take (i + 1) xs) ≡ flat_map f (take i xs) ++ f (get_or xs i d)
flat_map-take f xs i d h =
    ap (flat_map f) (take_more xs i d h) ∙ flat_map-append f (take i xs) (get_or xs i d ∷ [])
    ∙ ap (λ (l : List ℕ). flat_map f (take i xs) ++ l) (append-nil (f (get_or xs i d)))

-- one element more joins the line
pub added_more : {X : Type 0} (f : X → List ℕ) (xs : List X) (i : ℕ) (d : X) (before now after : List ℕ) → i < length xs
    → now ≡ before ++ flat_map f (take i xs) → after ≡ now ++ f (get_or xs i d) → after ≡ before ++ flat_map f (take (i + 1) xs)
added_more f xs i d before now after h so_far add =
    added_twice before now after (flat_map f (take i xs)) (f (get_or xs i d)) so_far add ∙ ap (λ (l : List ℕ). before ++ l) (sym (flat_map-take f xs i d h))
