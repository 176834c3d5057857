-- Which bytes are in XML.
use Rattle.std.proofs.Common.{◌≡◌, ℕ, ◌+◌, ◌/◌, ◌%◌, ◌<◌, Bool, true, false, List, [], ◌∷◌, refl, arith}
use Rattle.std.specs.Prelude.{◌==◌, ◌&&◌, not, nat_lt, codes, if◌then◌else◌}
use Rattle.std.specs.List.{flat_map, list_all}
use Rattle.std.proofs.lemmas.Bool.{and_from, ltb-true, ne_eqb}
use Rattle.rb_text.specs.Json.{hex_digit}
use Rattle.rb_text.proofs.JsonLaws.{flat_of}
use Rattle.rb_report.specs.Names.{by_number}
use Rattle.rb_check.specs.Visible.{stays}
use Rattle.rb_check.specs.Xml.{in_text, in_value}
use Rattle.rb_check.proofs.LineLaws.{cases}
use Rattle.rb_check.proofs.VisibleLaws.{is_quiet, byte_by}

-- neither `<` nor `>` nor a quotation mark
abbrev pub is_apart : ℕ → Bool
is_apart b = not (b == 60) && (not (b == 62) && not (b == 34))

none_of : (s t u : Bool) → s ≡ false → t ≡ false → u ≡ false → (not s && (not t && not u)) ≡ true
none_of false false false h k l = refl
none_of s t u h k l = absurd cc

apart : (b : ℕ) → (b ≡ 60 → ⊥) → (b ≡ 62 → ⊥) → (b ≡ 34 → ⊥) → is_apart b ≡ true
apart b h k l = none_of (b == 60) (b == 62) (b == 34) (ne_eqb b 60 h) (ne_eqb b 62 k) (ne_eqb b 34 l)

hex_by : (t : Bool) (n : ℕ) → nat_lt n 10 ≡ t → n < 16 → is_apart (if t then n + 48 else n + 87) ≡ true
hex_by true n few lt = let ten : n < 10 = ltb-true n 10 few in apart (n + 48) (λ e. absurd (omega (arith, ten, e))) (λ e. absurd (omega (arith, ten, e))) (λ e. absurd (omega (arith, ten, e)))
hex_by false n many lt = apart (n + 87) (λ e. absurd (omega (arith, e))) (λ e. absurd (omega (arith, e))) (λ e. absurd (omega (arith, e)))

hex_apart : (n : ℕ) → n < 16 → is_apart (hex_digit n) ≡ true
hex_apart n lt = hex_by (nat_lt n 10) n refl lt

-- a byte that is, or its number
shown_apart : (t : Bool) (b : ℕ) → is_apart b ≡ true → list_all is_apart (if t then b ∷ [] else by_number b) ≡ true
shown_apart true b is = and_from (is_apart b) true is refl
shown_apart false b is =
    and_from (is_apart 92) _ refl (and_from (is_apart 120) _ refl (and_from (is_apart (hex_digit (b / 16 % 16))) _ (hex_apart (b / 16 % 16) (omega arith))
    (and_from (is_apart (hex_digit (b % 16))) true (hex_apart (b % 16) (omega arith)) refl)))

text_byte : (b : ℕ) → list_all is_apart (in_text b) ≡ true
text_byte b = cases (b == 38) (λ yes. rw yes refl)
    (λ no38. cases (b == 60) (λ yes. rw (no38, yes) refl)
    (λ no60. cases (b == 62) (λ yes. rw (no38, no60, yes) refl)
    (λ no62. cases (b == 34) (λ yes. rw (no38, no60, no62, yes) refl)
    (λ no34. rw (no38, no60, no62, no34) (shown_apart (stays b) b (none_of (b == 60) (b == 62) (b == 34) no60 no62 no34))))))

value_by : (t u : Bool) (text : List ℕ) → list_all is_apart text ≡ true → list_all is_apart (if t then codes "&#10;" else (if u then codes "&#9;" else text)) ≡ true
value_by true u text h = refl
value_by false true text h = refl
value_by false false text h = h

value_byte : (b : ℕ) → list_all is_apart (in_value b) ≡ true
value_byte b = value_by (b == 10) (b == 9) (in_text b) (text_byte b)

quiet_byte : (b : ℕ) → list_all is_quiet (in_text b) ≡ true
quiet_byte b = cases (b == 38) (λ yes. rw yes refl)
    (λ no38. cases (b == 60) (λ yes. rw (no38, yes) refl)
    (λ no60. cases (b == 62) (λ yes. rw (no38, no60, yes) refl)
    (λ no62. cases (b == 34) (λ yes. rw (no38, no60, no62, yes) refl) (λ no34. rw (no38, no60, no62, no34) (byte_by (stays b) b refl)))))

pub texts_apart : (bytes : List ℕ) → list_all is_apart (flat_map in_text bytes) ≡ true
texts_apart bytes = flat_of is_apart in_text text_byte bytes

pub values_apart : (bytes : List ℕ) → list_all is_apart (flat_map in_value bytes) ≡ true
values_apart bytes = flat_of is_apart in_value value_byte bytes

pub texts_quiet : (bytes : List ℕ) → list_all is_quiet (flat_map in_text bytes) ≡ true
texts_quiet bytes = flat_of is_quiet in_text quiet_byte bytes
