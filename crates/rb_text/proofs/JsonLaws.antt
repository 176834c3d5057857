-- Texts as they stand between the quotes of JSON, whose bytes are of a kind.
use Rattle.std.proofs.Common.{◌≡◌, ◌∙◌, ℕ, ◌+◌, ◌%◌, ◌/◌, ◌<◌, ◌≤◌, Bool, true, false, List, [], ◌∷◌, refl, arith}
use Rattle.std.specs.Prelude.{nat_lt, if◌then◌else◌}
use Rattle.std.specs.List.{flat_map, list_all}
use Rattle.std.proofs.lemmas.Bool.{and_from, ltb-true}
use Rattle.std.proofs.lemmas.List.Folds.{list_all-append}
use Rattle.rb_text.specs.declared.json.Json.{Json}
use Rattle.rb_text.specs.Json.{hex_digit, is_plain, numbered, byte_text}

-- what holds of the bytes that stand for each byte holds of all
pub flat_of : (p : ℕ → Bool) (f : ℕ → List ℕ) → ((b : ℕ) → list_all p (f b) ≡ true) → (bytes : List ℕ) → list_all p (flat_map f bytes) ≡ true
flat_of p f each [] = refl
flat_of p f each (b ∷ bytes) = list_all-append p (f b) (flat_map f bytes) ∙ and_from (list_all p (f b)) (list_all p (flat_map f bytes)) (each b) (flat_of p f each bytes)

-- the bytes from one to another are of the kind
abbrev pub Between : ℕ → ℕ → (ℕ → Bool) → Type 0
Between least most p = (b : ℕ) → least ≤ b → b ≤ most → p b ≡ true

-- a hexadecimal digit is, where figures and letters are
digit_by : (p : ℕ → Bool) → Between 48 57 p → Between 87 117 p → (t : Bool) (n : ℕ) → nat_lt n 10 ≡ t → n < 16 → p (if t then n + 48 else n + 87) ≡ true
digit_by p figures letters true n few lt = figures (n + 48) (omega arith) (omega (arith, ltb-true n 10 few))
digit_by p figures letters false n many lt = letters (n + 87) (omega arith) (omega (arith, lt))

digit_of : (p : ℕ → Bool) → Between 48 57 p → Between 87 117 p → (n : ℕ) → n < 16 → p (hex_digit n) ≡ true
digit_of p figures letters n lt = digit_by p figures letters (nat_lt n 10) n refl lt

-- so is a byte by its number, which begins with a backslash and a u
byte_by : (p : ℕ → Bool) (json : Json) → ((b : ℕ) → is_plain json b ≡ true → p b ≡ true) → Between 48 57 p → Between 87 117 p → (t : Bool) (b : ℕ) → is_plain json b ≡ t
    → list_all p (if t then b ∷ [] else numbered b) ≡ true
byte_by p json plain figures letters true b h = and_from (p b) true (plain b h) refl
byte_by p json plain figures letters false b h =
    let nought : p 48 ≡ true = figures 48 (omega arith) (omega arith) in
    and_from (p 92) _ (letters 92 (omega arith) (omega arith)) (and_from (p 117) _ (letters 117 (omega arith) (omega arith)) (and_from (p 48) _ nought (and_from (p 48) _ nought
    (and_from (p (hex_digit (b / 16 % 16))) _ (digit_of p figures letters (b / 16 % 16) (omega arith)) (and_from (p (hex_digit (b % 16))) true (digit_of p figures letters (b % 16) (omega arith)) refl)))))

-- a text is of a kind that has figures, letters, and what stands for itself
pub text_of : (p : ℕ → Bool) (json : Json) → ((b : ℕ) → is_plain json b ≡ true → p b ≡ true) → Between 48 57 p → Between 87 117 p → (bytes : List ℕ)
    → list_all p (flat_map (byte_text json) bytes) ≡ true
text_of p json plain figures letters bytes = flat_of p (byte_text json) (λ b. byte_by p json plain figures letters (is_plain json b) b refl) bytes
