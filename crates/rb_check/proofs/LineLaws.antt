-- Which bytes are in reports for programs.
use Rattle.std.proofs.Common.{◌≡◌, ℕ, ◌≤◌, Bool, true, false, List, refl, arith}
use Rattle.std.specs.Prelude.{◌==◌, ◌&&◌, not, nat_le, nat_lt}
use Rattle.std.specs.List.{flat_map, list_all}
use Rattle.std.proofs.lemmas.Bool.{and_from, and_parts, le-leb, lt-ltb}
use Rattle.rb_text.specs.declared.json.Json.TheVariants.{Ascii}
use Rattle.rb_text.specs.Json.{is_plain, ascii}
use Rattle.rb_text.proofs.JsonLaws.{flat_of, text_of}
use Rattle.rb_check.specs.Escapes.{in_message, in_property}

pub cases : {A : Type 0} (t : Bool) → (t ≡ true → A) → (t ≡ false → A) → A
cases true same other = same refl
cases false same other = other refl

-- ---- ASCII

abbrev pub is_printable : ℕ → Bool
is_printable b = nat_le 32 b && nat_lt b 128

printable : (b : ℕ) → 48 ≤ b → b ≤ 117 → is_printable b ≡ true
printable b low high = and_from (nat_le 32 b) (nat_lt b 128) (le-leb 32 b (omega (arith, low))) (lt-ltb b 128 (omega (arith, high)))

plain_printable : (b : ℕ) → is_plain Ascii b ≡ true → is_printable b ≡ true
plain_printable b plain =
    let no_backslash = and_parts (is_printable b && not (b == 34)) (not (b == 92)) plain in
    (and_parts (is_printable b) (not (b == 34)) no_backslash.0).0

pub all_printable : (bytes : List ℕ) → list_all is_printable (flat_map ascii bytes) ≡ true
all_printable bytes =
    text_of is_printable Ascii plain_printable (λ b low high. printable b low (omega (arith, high))) (λ b low high. printable b (omega (arith, low)) high) bytes

-- ---- lines

abbrev pub is_in_line : ℕ → Bool
is_in_line b = not (b == 10) && not (b == 13)

abbrev pub is_in_value : ℕ → Bool
is_in_value b = not (b == 10) && not (b == 13) && not (b == 58) && not (b == 44)

line_true : (s t : Bool) → s ≡ false → t ≡ false → ((not s && not t) && true) ≡ true
line_true false false h k = refl
line_true s t h k = absurd cc

value_true : (s t u v : Bool) → s ≡ false → t ≡ false → u ≡ false → v ≡ false → ((((not s && not t) && not u) && not v) && true) ≡ true
value_true false false false false h k l m = refl
value_true s t u v h k l m = absurd cc

byte_in_line : (b : ℕ) → list_all is_in_line (in_message b) ≡ true
byte_in_line b = cases (b == 37) (λ yes. rw yes refl)
    (λ no37. cases (b == 13) (λ yes. rw (no37, yes) refl)
    (λ no13. cases (b == 10) (λ yes. rw (no37, no13, yes) refl) (λ no10. rw (no37, no13, no10) (line_true (b == 10) (b == 13) no10 no13))))

byte_in_value : (b : ℕ) → list_all is_in_value (in_property b) ≡ true
byte_in_value b = cases (b == 58) (λ yes. rw yes refl)
    (λ no58. cases (b == 44) (λ yes. rw (no58, yes) refl)
    (λ no44. cases (b == 37) (λ yes. rw (no58, no44, yes) refl)
    (λ no37. cases (b == 13) (λ yes. rw (no58, no44, no37, yes) refl)
    (λ no13. cases (b == 10) (λ yes. rw (no58, no44, no37, no13, yes) refl) (λ no10. rw (no58, no44, no37, no13, no10) (value_true (b == 10) (b == 13) (b == 58) (b == 44) no10 no13 no58 no44))))))

pub all_in_line : (bytes : List ℕ) → list_all is_in_line (flat_map in_message bytes) ≡ true
all_in_line bytes = flat_of is_in_line in_message byte_in_line bytes

pub all_in_value : (bytes : List ℕ) → list_all is_in_value (flat_map in_property bytes) ≡ true
all_in_value bytes = flat_of is_in_value in_property byte_in_value bytes
