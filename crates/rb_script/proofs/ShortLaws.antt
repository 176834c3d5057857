-- Lines that are short, since a line feed is near.
use Rattle.std.proofs.Common.{◌≡◌, ℕ, ◌+◌, ◌-◌, ◌≤◌, ◌<◌, zero, suc, true, false, cond, eqb, List, [], ◌∷◌, length, take, drop, get_or, map, Option, Some, None, eq-eqb, eqb-true, add-one, refl, ap, sym, ◌∙◌, arith}
use Rattle.std.specs.Prelude.{IfSome, slice_index}
use Rattle.std.specs.List.{AllByRecursion}
use Rattle.std.proofs.lemmas.Bool.{le-ltb}
use Rattle.std.proofs.lemmas.List.{take_rest, get_or-take, length-take, length-map}
use Rattle.memchr.specs.Find.{IsLastByte, is_byte}
use Rattle.rb_script.specs.declared.limits.TheConstants.{MAX_LINE}
use Rattle.rb_script.specs.Lines.{Line, put_before, without_returns, in_first, cut, lines}
use Rattle.rb_script.specs.Reading.{long_line}

-- each line has at most as many bytes
abbrev AllWithin : ℕ → List Line → Type 0
AllWithin most ls = AllByRecursion (λ line. length line ≤ most) ls

-- the first line has at most so many bytes, and those after it so many
abbrev FirstWithin : ℕ → ℕ → List Line → Type 0
FirstWithin first most [] = Unit {0}
FirstWithin first most (line ∷ ls) = (length line ≤ first) × AllWithin most ls

-- where the first has no more than the others may have
all_within : (first most : ℕ) (ls : List Line) → first ≤ most → FirstWithin first most ls → AllWithin most ls
all_within first most [] le h = tt
all_within first most (line ∷ ls) le h = (omega (arith, h.0), h.1)

-- a byte of the first line
first_longer : (b first most : ℕ) (ls : List Line) → FirstWithin first most ls → FirstWithin (suc first) most (in_first b ls)
first_longer b first most [] h = (omega arith, tt)
first_longer b first most (line ∷ ls) h = (omega (arith, h.0), h.1)

-- a byte before them, a line feed or another
one_more : (b first most : ℕ) (bytes : List ℕ) → first ≤ most → FirstWithin first most (cut bytes) → FirstWithin (suc first) most (cut (b ∷ bytes))
unfolding cut
one_more b first most bytes le h =
    elim (eqb b 10) as (λ t. FirstWithin (suc first) most (cond t ([] ∷ cut bytes) (in_first b (cut bytes)))) [
      | true ↦ (omega arith, all_within first most (cut bytes) le h)
      | false ↦ first_longer b first most (cut bytes) h
    ]

-- no line has more bytes than there are
few_bytes : (most : ℕ) (bytes : List ℕ) → length bytes ≤ most → FirstWithin (length bytes) most (cut bytes)
unfolding cut
few_bytes most [] le = tt
few_bytes most (b ∷ bytes) le = one_more b (length bytes) most bytes (omega arith) (few_bytes most bytes (omega arith))

-- up to a line feed no line has more bytes than stand before it
up_to_feed : (most : ℕ) (bytes : List ℕ) (end : ℕ) → end < length bytes → end ≤ most → get_or bytes end 0 ≡ 10 → AllWithin most (cut (drop (suc end) bytes)) → FirstWithin end most (cut bytes)
unfolding cut
up_to_feed most [] end lt le at after = absurd (omega arith)
up_to_feed most (b ∷ bytes) zero lt le at after = rw (eq-eqb b 10 at) (omega arith, after)
up_to_feed most (b ∷ bytes) (suc end) lt le at after = one_more b end most bytes (omega arith) (up_to_feed most bytes end (omega arith) (omega arith) at after)

-- each line is short enough, with its carriage returns too
abbrev pub AreShort : List ℕ → Type 0
AreShort bytes = AllWithin MAX_LINE (cut bytes)

pub short_by_length : (bytes : List ℕ) → length bytes ≤ MAX_LINE → AreShort bytes
short_by_length bytes le = all_within (length bytes) MAX_LINE (cut bytes) le (few_bytes MAX_LINE bytes le)

-- a line feed of the first bytes
pub near_feed : (bytes : List ℕ) (found : Option ℕ) → IsLastByte (is_byte 10) (take (MAX_LINE + 1) bytes) found → IfSome found (λ end. (end ≤ MAX_LINE) × (slice_index bytes end ≡ 10))
near_feed bytes None last = tt
near_feed bytes (Some end) last =
    let within : end < MAX_LINE + 1 = omega (arith, last.0.high, length-take (MAX_LINE + 1) bytes) in
    (omega (arith, within), sym (get_or-take (MAX_LINE + 1) bytes end 0 within) ∙ eqb-true (slice_index (take (MAX_LINE + 1) bytes) end) 10 last.1)

-- where those behind a near line feed are, all are
pub short_by_feed : (bytes : List ℕ) (end : ℕ) → end < length bytes → end ≤ MAX_LINE → get_or bytes end 0 ≡ 10 → AreShort (take (length bytes - (end + 1)) (drop (end + 1) bytes)) → AreShort bytes
short_by_feed bytes end lt le at after = all_within end MAX_LINE (cut bytes) le (up_to_feed MAX_LINE bytes end lt le at (rw (take_rest bytes (end + 1), add-one) at after))

-- ---- without the carriage returns

put_shorter : (b : ℕ) (line : Line) → length (put_before b line) ≤ suc (length line)
put_shorter b [] = elim (eqb b 13) as (λ t. length (cond t [] (b ∷ [])) ≤ 1) [ true ↦ omega arith | false ↦ omega arith ]
put_shorter b (c ∷ line) = omega arith

pub returns_shorter : (line : Line) → length (without_returns line) ≤ length line
unfolding without_returns
returns_shorter [] = omega arith
returns_shorter (b ∷ line) = omega (arith, put_shorter b (without_returns line), returns_shorter line)

none_long : (n : ℕ) (ls : List Line) → AllWithin MAX_LINE ls → long_line n (map without_returns ls) ≡ None
unfolding long_line
none_long n [] h = refl
none_long n (line ∷ ls) h =
    ap (λ t. cond t (Some n) (long_line (n + 1) (map without_returns ls))) (le-ltb MAX_LINE (length (without_returns line)) (omega (arith, h.0, returns_shorter line))) ∙ none_long (n + 1) ls h.1

pub short_lines : (bytes : List ℕ) (n : ℕ) → AreShort bytes → long_line n (lines bytes) ≡ None
unfolding lines
short_lines bytes n h = none_long n (cut bytes) h

-- ---- no more lines than bytes

in_first_few : (b : ℕ) (ls : List Line) → length (in_first b ls) ≤ suc (length ls)
in_first_few b [] = omega arith
in_first_few b (line ∷ ls) = omega arith

cut_few : (bytes : List ℕ) → length (cut bytes) ≤ length bytes
unfolding cut
cut_few [] = omega arith
cut_few (b ∷ bytes) =
    let rest = cut_few bytes in
    elim (eqb b 10) as (λ t. length (cond t ([] ∷ cut bytes) (in_first b (cut bytes))) ≤ suc (length bytes)) [
      | true ↦ omega (arith, rest)
      | false ↦ omega (arith, rest, in_first_few b (cut bytes))
    ]

pub lines_few : (bytes : List ℕ) → length (lines bytes) ≤ length bytes
unfolding lines
lines_few bytes = omega (arith, length-map (cut bytes) without_returns, cut_few bytes)
