-- The bytes between two places, one more at a time, and the values among them.
use Rattle.std.proofs.Common.{◌≡◌, ◌∙◌, ℕ, ◌+◌, ◌-◌, ◌<◌, ◌≤◌, Bool, true, false, List, [], ◌∷◌, ◌++◌, length, drop, take, get_or, ap, sym, arith}
use Rattle.std.specs.Prelude.{◌||◌, if◌then◌else◌, slice_range}
use Rattle.std.specs.Str.{bytes_eq}
use Rattle.std.proofs.lemmas.List.{drop_more, get_or-drop, length-drop, take_more}
use Rattle.rb_script.specs.Directive.{is_gap}
use Rattle.rb_editor.specs.Unfinished.{has_piece}

pub range_more : (bytes : List ℕ) (from i : ℕ) → from ≤ i → i < length bytes → slice_range bytes from (i + 1) ≡ slice_range bytes from i ++ get_or bytes i 0 ∷ []
range_more bytes from i le within =
    let rest = drop from bytes in
    let count : i + 1 - from ≡ (i - from) + 1 = omega (arith, le) in
    let inside : i - from < length rest = omega (arith, le, within, length-drop from bytes) in
    let same : from + (i - from) ≡ i = omega (arith, le) in
    let there : get_or rest (i - from) 0 ≡ get_or bytes i 0 = get_or-drop from bytes (i - from) 0 ∙ ap (λ (n : ℕ). get_or bytes n 0) same in
    ap (λ (n : ℕ). take n rest) count ∙ take_more rest (i - from) 0 inside ∙ ap (λ (b : ℕ). take (i - from) rest ++ b ∷ []) there

pub range_none : (bytes : List ℕ) (i : ℕ) → slice_range bytes i i ≡ []
range_none bytes i = let none : i - i ≡ 0 = omega arith in ap (λ (n : ℕ). take n (drop i bytes)) none

-- a byte of a value
pub piece_more : (word bytes : List ℕ) (from i : ℕ) (total : Bool) → from ≤ i → i < length bytes → is_gap (get_or bytes i 0) ≡ false → has_piece word (slice_range bytes from i) (drop i bytes) ≡ total
    → has_piece word (slice_range bytes from (i + 1)) (drop (i + 1) bytes) ≡ total
piece_more word bytes from i total le within going so_far =
    let b = get_or bytes i 0 in
    let piece = slice_range bytes from i in
    let rest = drop (i + 1) bytes in
    ap (λ (p : List ℕ). has_piece word p rest) (range_more bytes from i le within)
    ∙ sym (ap (λ (t : Bool). if t then bytes_eq piece word || has_piece word [] rest else has_piece word (piece ++ b ∷ []) rest) going)
    ∙ sym (ap (has_piece word piece) (drop_more bytes i 0 within))
    ∙ so_far

-- a gap after a value that is the word, or another
piece_ends : (word bytes : List ℕ) (from i : ℕ) (t total : Bool) → i < length bytes → is_gap (get_or bytes i 0) ≡ true → t ≡ bytes_eq (slice_range bytes from i) word
    → has_piece word (slice_range bytes from i) (drop i bytes) ≡ total → (t || has_piece word [] (drop (i + 1) bytes)) ≡ total
piece_ends word bytes from i t total within gap is so_far =
    let b = get_or bytes i 0 in
    let piece = slice_range bytes from i in
    let rest = drop (i + 1) bytes in
    ap (λ (x : Bool). x || has_piece word [] rest) is
    ∙ sym (ap (λ (x : Bool). if x then bytes_eq piece word || has_piece word [] rest else has_piece word (piece ++ b ∷ []) rest) gap)
    ∙ sym (ap (has_piece word piece) (drop_more bytes i 0 within))
    ∙ so_far

pub piece_passed : (word bytes : List ℕ) (from i : ℕ) (t total : Bool) → i < length bytes → is_gap (get_or bytes i 0) ≡ true → t ≡ bytes_eq (slice_range bytes from i) word → t ≡ false
    → has_piece word (slice_range bytes from i) (drop i bytes) ≡ total → has_piece word (slice_range bytes (i + 1) (i + 1)) (drop (i + 1) bytes) ≡ total
piece_passed word bytes from i t total within gap is other so_far =
    ap (λ (p : List ℕ). has_piece word p (drop (i + 1) bytes)) (range_none bytes (i + 1))
    ∙ sym (ap (λ (x : Bool). x || has_piece word [] (drop (i + 1) bytes)) other) ∙ piece_ends word bytes from i t total within gap is so_far
