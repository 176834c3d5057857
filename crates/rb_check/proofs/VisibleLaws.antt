-- Which bytes go out by numbers.
use Rattle.std.proofs.Common.{◌≡◌, ℕ, ◌+◌, ◌/◌, ◌%◌, ◌<◌, ◌≤◌, Bool, true, false, List, [], ◌∷◌, refl, arith, inl, inr}
use Rattle.std.specs.Prelude.{◌==◌, ◌&&◌, ◌||◌, not, nat_le, nat_lt, if◌then◌else◌, Result, Ok, Err, None}
use Rattle.std.specs.List.{flat_map, list_all}
use Rattle.std.proofs.lemmas.Bool.{and_from, and_parts, leb-true, le-ltb, eqb-true}
use Rattle.std.proofs.lemmas.Bool.Decides.{eqb_tells}
use Rattle.rb_script.specs.declared.sink.WriteFault.{WriteFault}
use Rattle.rb_script.specs.Writes.{Writes}
use Rattle.rb_text.specs.Json.{hex_digit}
use Rattle.rb_text.proofs.JsonLaws.{flat_of}
use Rattle.rb_report.specs.Names.{by_number}
use Rattle.rb_check.specs.Visible.{acts, stays, visible_byte}

-- nothing is known of what goes out
pub unknown : {X : Type 0} (r : Result X WriteFault) (text : List ℕ) → Writes r None None text
unknown (Ok x) text = tt
unknown (Err e) text = record { front = []; rest = text; parts = refl; appended = tt }

abbrev pub is_quiet : ℕ → Bool
is_quiet b = (b == 10) || not (acts b)

-- what is from 32 to 126 acts in nothing
printable : (b : ℕ) → 32 ≤ b → b ≤ 126 → is_quiet b ≡ true
printable b low high = quiet_by (b == 10) (nat_lt b 32) (b == 9) (b == 127) (ltb-no b 32 low) (eq-no b 127 (omega (arith, high)))
  where
    quiet_by : (n l t d : Bool) → l ≡ false → d ≡ false → (n || not ((l && not t) || d)) ≡ true
    quiet_by true l t d p q = refl
    quiet_by false false t false p q = refl
    quiet_by false true t d p q = absurd cc
    quiet_by false false t true p q = absurd cc

    ltb-no : (a b : ℕ) → b ≤ a → nat_lt a b ≡ false
    ltb-no a b le = le-ltb a b le

    eq-no : (a b : ℕ) → a < b → (a == b) ≡ false
    eq-no a b lt = elim (eqb_tells a b) [
      | inl y ↦ absurd (omega (arith, lt, y.1))
      | inr n ↦ n.0
    ]

hex_by : (t : Bool) (n : ℕ) → nat_lt n 10 ≡ t → n < 16 → is_quiet (if t then n + 48 else n + 87) ≡ true
hex_by true n few lt = printable (n + 48) (omega arith) (omega (arith, lt))
hex_by false n many lt = printable (n + 87) (omega arith) (omega (arith, lt))

hex_quiet : (n : ℕ) → n < 16 → is_quiet (hex_digit n) ≡ true
hex_quiet n lt = hex_by (nat_lt n 10) n refl lt

stays_quiet : (b : ℕ) → stays b ≡ true → is_quiet b ≡ true
stays_quiet b is = by_cases (b == 10) (b == 9) (nat_le 32 b && (nat_le b 126 && not (b == 92))) (nat_lt b 32) (b == 127) is
    (λ all. let low = leb-true 32 b (and_parts (nat_le 32 b) _ all).0 in
    let high = leb-true b 126 (and_parts (nat_le b 126) (not (b == 92)) (and_parts (nat_le 32 b) _ all).1).0 in
    printable b low high)
    (λ nine. tab_quiet b nine)
  where
    by_cases : (n t p l d : Bool) → (n || (t || p)) ≡ true → (p ≡ true → (n || not ((l && not t) || d)) ≡ true) → (t ≡ true → (n || not ((l && not t) || d)) ≡ true) → (n || not ((l && not t) || d)) ≡ true
    by_cases true t p l d is printable tab = refl
    by_cases false true p l d is printable tab = tab refl
    by_cases false false true l d is printable tab = printable refl
    by_cases false false false l d is printable tab = absurd cc

    tab_quiet : (b : ℕ) → (b == 9) ≡ true → is_quiet b ≡ true
    tab_quiet b nine = let same : b ≡ 9 = eqb-true b 9 nine in rw same refl

pub byte_by : (t : Bool) (b : ℕ) → stays b ≡ t → list_all is_quiet (if t then b ∷ [] else by_number b) ≡ true
byte_by true b is = and_from (is_quiet b) true (stays_quiet b is) refl
byte_by false b away =
    and_from (is_quiet 92) _ refl (and_from (is_quiet 120) _ refl (and_from (is_quiet (hex_digit (b / 16 % 16))) _ (hex_quiet (b / 16 % 16) (omega arith))
    (and_from (is_quiet (hex_digit (b % 16))) true (hex_quiet (b % 16) (omega arith)) refl)))

pub all_visible : (bytes : List ℕ) → list_all is_quiet (flat_map visible_byte bytes) ≡ true
all_visible bytes = flat_of is_quiet visible_byte (λ b. byte_by (stays b) b refl) bytes
