-- Lists of what passes a test, as texts whose bytes are of a kind.
use Rattle.std.proofs.Common.{◌≡◌, ◌∙◌, ℕ, zero, suc, ◌+◌, ◌%◌, ◌/◌, ◌<◌, Bool, true, false, List, [], ◌∷◌, ◌++◌, decimal, refl, sym, subst, arith}
use Rattle.std.specs.Prelude.{◌==◌, if◌then◌else◌}
use Rattle.std.specs.List.{flat_map, list_all}
use Rattle.std.specs.Fmt.{digits, digits_onto, digit_glyph}
use Rattle.std.proofs.lemmas.Bool.{and_from, and_parts, lt-ltb}
use Rattle.std.proofs.lemmas.List.Folds.{list_all-append}

-- two such lists make one
pub joined_of : {X : Type 0} (p : X → Bool) (a b : List X) → list_all p a ≡ true → list_all p b ≡ true → list_all p (a ++ b) ≡ true
joined_of p a b first second = list_all-append p a b ∙ and_from (list_all p a) (list_all p b) first second

-- so do many
pub flat_of : {X Y : Type 0} (p : Y → Bool) (f : X → List Y) → ((x : X) → list_all p (f x) ≡ true) → (xs : List X) → list_all p (flat_map f xs) ≡ true
flat_of p f each [] = refl
flat_of p f each (x ∷ xs) = joined_of p (f x) (flat_map f xs) (each x) (flat_of p f each xs)

-- what passes a test passes a wider one
pub wider : {X : Type 0} (p q : X → Bool) → ((x : X) → p x ≡ true → q x ≡ true) → (xs : List X) → list_all p xs ≡ true → list_all q xs ≡ true
wider p q is [] h = refl
wider p q is (x ∷ xs) h =
    let parts = and_parts (p x) (list_all p xs) h in
    and_from (q x) (list_all q xs) (is x parts.0) (wider p q is xs parts.1)

-- digits before a text
digits_of : (p : ℕ → Bool) → ((d : ℕ) → d < 10 → p (48 + d) ≡ true) → (k n : ℕ) (text : List ℕ) → list_all p text ≡ true → list_all p (digits_onto k 10 false n text) ≡ true
digits_of p figure zero n text h = h
digits_of p figure (suc k) n text h =
    let first : p (digit_glyph false (n % 10)) ≡ true =
    subst (λ (t : Bool). p (if t then 48 + n % 10 else (if false then 55 + n % 10 else 87 + n % 10)) ≡ true) (sym (lt-ltb (n % 10) 10 (omega arith))) (figure (n % 10) (omega arith)) in
    let more : list_all p (digit_glyph false (n % 10) ∷ text) ≡ true = and_from (p (digit_glyph false (n % 10))) (list_all p text) first h in
    elim (n / 10 == 0) as (λ t. list_all p (if t then digit_glyph false (n % 10) ∷ text else digits_onto k 10 false (n / 10) (digit_glyph false (n % 10) ∷ text)) ≡ true)
    [ true ↦ more | false ↦ digits_of p figure k (n / 10) (digit_glyph false (n % 10) ∷ text) more ]

-- a number is of a kind that has the figures
pub decimal_of : (p : ℕ → Bool) → ((d : ℕ) → d < 10 → p (48 + d) ≡ true) → (n : ℕ) → list_all p (decimal n) ≡ true
unfolding digits
decimal_of p figure n = digits_of p figure 64 n [] refl
