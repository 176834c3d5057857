-- Which bytes a name has when it is shown.
use Rattle.std.proofs.Common.{◌≡◌, ◌∙◌, ℕ, ◌+◌, ◌/◌, ◌%◌, ◌<◌, ◌≤◌, Bool, true, false, List, [], ◌∷◌, refl, arith, inl, inr}
use Rattle.std.specs.Prelude.{◌==◌, ◌&&◌, ◌||◌, not, nat_le, nat_lt, if◌then◌else◌}
use Rattle.std.specs.List.{flat_map, list_all, list_any}
use Rattle.std.proofs.lemmas.Bool.{and_from, and_parts, leb-true, le-leb, le-ltb, ltb-true}
use Rattle.std.proofs.lemmas.Bool.Decides.{eqb_tells}
use Rattle.rb_text.specs.Json.{hex_digit}
use Rattle.rb_text.proofs.JsonLaws.{flat_of}
use Rattle.rb_report.specs.Names.{acts_in_line, by_number, has_acting_char, is_control, is_printable, is_visible, name_byte, shown_name}

visible : (b : ℕ) → 32 ≤ b → b ≤ 126 → is_visible b ≡ true
visible b low high = and_from (nat_le 32 b) (nat_le b 126) (le-leb 32 b low) (le-leb b 126 high)

hex_by : (t : Bool) (n : ℕ) → nat_lt n 10 ≡ t → n < 16 → is_visible (if t then n + 48 else n + 87) ≡ true
hex_by true n few lt = visible (n + 48) (omega arith) (omega (arith, lt))
hex_by false n many lt = visible (n + 87) (omega arith) (omega (arith, lt))

hex_visible : (n : ℕ) → n < 16 → is_visible (hex_digit n) ≡ true
hex_visible n lt = hex_by (nat_lt n 10) n refl lt

byte_by : (t : Bool) (b : ℕ) → is_printable b ≡ t → list_all is_visible (if t then b ∷ [] else by_number b) ≡ true
byte_by true b is =
    let low = leb-true 32 b (and_parts (nat_le 32 b) _ is).0 in
    let high = leb-true b 126 (and_parts (nat_le b 126) (not (b == 92)) (and_parts (nat_le 32 b) _ is).1).0 in
    and_from (is_visible b) true (visible b low high) refl
byte_by false b away =
    and_from (is_visible 92) _ refl (and_from (is_visible 120) _ refl (and_from (is_visible (hex_digit (b / 16 % 16))) _ (hex_visible (b / 16 % 16) (omega arith))
    (and_from (is_visible (hex_digit (b % 16))) true (hex_visible (b % 16) (omega arith)) refl)))

all_visible : (name : List ℕ) → list_all is_visible (flat_map name_byte name) ≡ true
all_visible name = flat_of is_visible name_byte (λ b. byte_by (is_printable b) b refl) name

visible_if : (t : Bool) (name : List ℕ) → t ≡ true → list_all is_visible (if t then flat_map name_byte name else name) ≡ true
visible_if true name is = all_visible name
visible_if false name is = absurd cc

-- a name that acts is shown in printable ASCII
pub shown_visible : (name : List ℕ) → acts_in_line name ≡ true → list_all is_visible (shown_name name) ≡ true
shown_visible name is = visible_if (acts_in_line name) name is

-- what is printable is no control character
uncontrolled : (b : ℕ) → 32 ≤ b → b ≤ 126 → is_control b ≡ false
uncontrolled b low high = neither (nat_lt b 32) (b == 127) (le-ltb b 32 low) (other b high)
  where
    neither : (l d : Bool) → l ≡ false → d ≡ false → (l || d) ≡ false
    neither false false p q = refl
    neither true d p q = absurd cc
    neither false true p q = absurd cc

    other : (b : ℕ) → b ≤ 126 → (b == 127) ≡ false
    other b high = elim (eqb_tells b 127) [
      | inl y ↦ absurd (omega (arith, high, y.1))
      | inr n ↦ n.0
    ]

quiet_of : (b : ℕ) → is_visible b ≡ true → not (is_control b) ≡ true
quiet_of b is = turned (is_control b) (uncontrolled b (leb-true 32 b (and_parts (nat_le 32 b) (nat_le b 126) is).0) (leb-true b 126 (and_parts (nat_le 32 b) (nat_le b 126) is).1))
  where
    turned : (c : Bool) → c ≡ false → not c ≡ true
    turned false p = refl
    turned true p = absurd cc

quiet_each : (bytes : List ℕ) → list_all is_visible bytes ≡ true → list_all (λ (b : ℕ). not (is_control b)) bytes ≡ true
quiet_each [] h = refl
quiet_each (b ∷ bytes) h =
    let parts = and_parts (is_visible b) (list_all is_visible bytes) h in
    and_from (not (is_control b)) (list_all (λ (b : ℕ). not (is_control b)) bytes) (quiet_of b parts.0) (quiet_each bytes parts.1)

none_each : (bytes : List ℕ) → list_any is_control bytes ≡ false → list_all (λ (b : ℕ). not (is_control b)) bytes ≡ true
none_each [] h = refl
none_each (b ∷ bytes) h =
    and_from (not (is_control b)) (list_all (λ (b : ℕ). not (is_control b)) bytes) (first (is_control b) _ h) (none_each bytes (second (is_control b) _ h))
  where
    first : (c d : Bool) → (c || d) ≡ false → not c ≡ true
    first false d p = refl
    first true d p = absurd cc

    second : (c d : Bool) → (c || d) ≡ false → d ≡ false
    second false d p = p
    second true d p = absurd cc

quiet_if : (t : Bool) (name : List ℕ) → (t ≡ false → list_any is_control name ≡ false) → list_all (λ (b : ℕ). not (is_control b)) (if t then flat_map name_byte name else name) ≡ true
quiet_if true name h = quiet_each (flat_map name_byte name) (all_visible name)
quiet_if false name h = none_each name (h refl)

-- no byte of a shown name is a control character
pub shown_quiet : (name : List ℕ) → list_all (λ (b : ℕ). not (is_control b)) (shown_name name) ≡ true
shown_quiet name = quiet_if (acts_in_line name) name (left (list_any is_control name) (has_acting_char name))
  where
    left : (c d : Bool) → (c || d) ≡ false → c ≡ false
    left false d p = refl
    left true d p = absurd cc
