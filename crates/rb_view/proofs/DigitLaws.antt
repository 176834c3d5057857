-- The digits of small numbers, with the comma of a cell before them.
use Rattle.std.proofs.Common.{◌≡◌, ◌∙◌, ℕ, ◌+◌, ◌/◌, ◌%◌, ◌<◌, ◌≤◌, ◌^◌, List, [], ◌∷◌, ◌++◌, decimal, ap, ap₂, sym, arith}
use Rattle.std.proofs.lemmas.Fmt.{decimal_digit, decimal_step}

-- one digit more
one_more : (n : ℕ) (front : List ℕ) → 10 ≤ n → n < 10000 → decimal (n / 10) ≡ front → decimal n ≡ front ++ (48 + n % 10) ∷ []
one_more n front least most is = decimal_step n least (omega (arith, most)) ∙ ap (λ (l : List ℕ). l ++ (48 + n % 10) ∷ []) is

one : (n : ℕ) → n < 10 → decimal n ≡ (48 + n) ∷ []
one n lt = decimal_digit n lt

two : (n : ℕ) → 10 ≤ n → n < 100 → decimal n ≡ (48 + n / 10) ∷ (48 + n % 10) ∷ []
two n least most = one_more n _ least (omega (arith, most)) (one (n / 10) (omega (arith, most)))

three : (n : ℕ) → 100 ≤ n → n < 1000 → decimal n ≡ (48 + n / 10 / 10) ∷ (48 + n / 10 % 10) ∷ (48 + n % 10) ∷ []
three n least most = one_more n _ (omega (arith, least)) (omega (arith, most)) (two (n / 10) (omega (arith, least)) (omega (arith, most)))

four : (n : ℕ) → 1000 ≤ n → n < 10000 → decimal n ≡ (48 + n / 10 / 10 / 10) ∷ (48 + n / 10 / 10 % 10) ∷ (48 + n / 10 % 10) ∷ (48 + n % 10) ∷ []
four n least most = one_more n _ (omega (arith, least)) most (three (n / 10) (omega (arith, least)) (omega (arith, most)))

pub two_digits : (n t o : ℕ) → 10 ≤ n → n < 100 → t ≡ 48 + n / 10 % 10 → o ≡ 48 + n % 10 → 44 ∷ t ∷ o ∷ [] ≡ 44 ∷ decimal n
two_digits n t o least most tens ones =
    let first : t ≡ 48 + n / 10 = omega (arith, most, tens) in
    ap₂ (λ (a b : ℕ). 44 ∷ a ∷ b ∷ []) first ones ∙ ap (λ (l : List ℕ). 44 ∷ l) (sym (two n least most))

pub three_digits : (n h t o : ℕ) → 100 ≤ n → n < 1000 → h ≡ 48 + n / 100 % 10 → t ≡ 48 + n / 10 % 10 → o ≡ 48 + n % 10 → 44 ∷ h ∷ t ∷ o ∷ [] ≡ 44 ∷ decimal n
three_digits n h t o least most hundreds tens ones =
    let first : h ≡ 48 + n / 10 / 10 = omega (arith, most, hundreds) in
    ap₂ (λ (a b : ℕ). 44 ∷ a ∷ b ∷ o ∷ []) first tens ∙ ap (λ (c : ℕ). 44 ∷ (48 + n / 10 / 10) ∷ (48 + n / 10 % 10) ∷ c ∷ []) ones
    ∙ ap (λ (l : List ℕ). 44 ∷ l) (sym (three n least most))

pub four_digits : (n k h t o : ℕ) → 1000 ≤ n → n < 10000 → k ≡ 48 + n / 1000 % 10 → h ≡ 48 + n / 100 % 10 → t ≡ 48 + n / 10 % 10 → o ≡ 48 + n % 10 → 44 ∷ k ∷ h ∷ t ∷ o ∷ [] ≡ 44 ∷ decimal n
four_digits n k h t o least most thousands hundreds tens ones =
    let first : k ≡ 48 + n / 10 / 10 / 10 = omega (arith, most, thousands) in
    let second : h ≡ 48 + n / 10 / 10 % 10 = omega (arith, most, hundreds) in
    ap₂ (λ (a b : ℕ). 44 ∷ a ∷ b ∷ t ∷ o ∷ []) first second ∙ ap₂ (λ (c d : ℕ). 44 ∷ (48 + n / 10 / 10 / 10) ∷ (48 + n / 10 / 10 % 10) ∷ c ∷ d ∷ []) tens ones
    ∙ ap (λ (l : List ℕ). 44 ∷ l) (sym (four n least most))
