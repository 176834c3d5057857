-- Where a word begins in a line, and the first correction of some.
use Rattle.std.proofs.Common.{◌≡◌, ◌∙◌, ℕ, ◌+◌, ◌-◌, ◌<◌, ◌≤◌, Bool, true, false, List, [], ◌∷◌, ◌++◌, length, drop, get_or, Option, Some, ap, ap₂, sym, arith}
use Rattle.std.specs.Prelude.{if◌then◌else◌, ◌==◌, slice_get, slice_range}
use Rattle.std.specs.Str.{bytes_eq}
use Rattle.std.proofs.lemmas.List.{drop_all, drop_more, length-drop, length-take-le}
use Rattle.rb_text.proofs.SentLaws.{drop-get}
use Rattle.rb_script.specs.Script.{PlainBlock}
use Rattle.rb_lsp.specs.declared.document.position.Encoding.{Encoding}
use Rattle.rb_editor.proofs.PieceLaws.{range_more, range_none}
use Rattle.rb_editor.specs.declared.actions.extent.LineSpan.{LineSpan}
use Rattle.rb_editor.specs.Corrections.{column_in, correction, corrections, ends_word, or_text}

-- a byte of a word
pub column_more : (word line : List ℕ) (from i : ℕ) (total : Option ℕ) → from ≤ i → i < length line → ends_word (get_or line i 0) ≡ false → column_in word from (slice_range line from i) (drop i line) ≡ total
    → column_in word from (slice_range line from (i + 1)) (drop (i + 1) line) ≡ total
column_more word line from i total le within going so_far =
    let b = get_or line i 0 in
    let piece = slice_range line from i in
    let rest = drop (i + 1) line in
    ap (λ (p : List ℕ). column_in word from p rest) (range_more line from i le within)
    ∙ sym (ap (λ (t : Bool). if t then (if bytes_eq piece word then Some from else column_in word (from + length piece + 1) [] rest) else column_in word from (piece ++ b ∷ []) rest) going)
    ∙ sym (ap (column_in word from piece) (drop_more line i 0 within))
    ∙ so_far

-- the end of a word that is the one, or another
column_ends : (word line : List ℕ) (from i : ℕ) (t : Bool) (total : Option ℕ) → i < length line → ends_word (get_or line i 0) ≡ true → t ≡ bytes_eq (slice_range line from i) word
    → column_in word from (slice_range line from i) (drop i line) ≡ total
    → (if t then Some from else column_in word (from + length (slice_range line from i) + 1) [] (drop (i + 1) line)) ≡ total
column_ends word line from i t total within ends is so_far =
    let b = get_or line i 0 in
    let piece = slice_range line from i in
    let rest = drop (i + 1) line in
    ap (λ (x : Bool). if x then Some from else column_in word (from + length piece + 1) [] rest) is
    ∙ sym (ap (λ (x : Bool). if x then (if bytes_eq piece word then Some from else column_in word (from + length piece + 1) [] rest) else column_in word from (piece ++ b ∷ []) rest) ends)
    ∙ sym (ap (column_in word from piece) (drop_more line i 0 within))
    ∙ so_far

range_length : (line : List ℕ) (from i : ℕ) → from ≤ i → i ≤ length line → length (slice_range line from i) ≡ i - from
range_length line from i le within = length-take-le (i - from) (drop from line) (omega (arith, le, within, length-drop from line))

pub column_passed : (word line : List ℕ) (from i : ℕ) (t : Bool) (total : Option ℕ) → from ≤ i → i < length line → ends_word (get_or line i 0) ≡ true → t ≡ bytes_eq (slice_range line from i) word → t ≡ false
    → column_in word from (slice_range line from i) (drop i line) ≡ total → column_in word (i + 1) (slice_range line (i + 1) (i + 1)) (drop (i + 1) line) ≡ total
column_passed word line from i t total le within ends is other so_far =
    let rest = drop (i + 1) line in
    let len : from + length (slice_range line from i) + 1 ≡ i + 1 = omega (arith, le, within, range_length line from i le (omega (arith, within))) in
    ap (λ (p : List ℕ). column_in word (i + 1) p rest) (range_none line (i + 1))
    ∙ sym (ap (λ (n : ℕ). column_in word n [] rest) len)
    ∙ sym (ap (λ (x : Bool). if x then Some from else column_in word (from + length (slice_range line from i) + 1) [] rest) other) ∙ column_ends word line from i t total within ends is so_far

-- that of one directive, and those after it
corrections_step : (encoding : Encoding) (uri text : List ℕ) (span : LineSpan) (heads : List ℕ) (bs : List PlainBlock) (i line : ℕ) (b : PlainBlock) → slice_get heads i ≡ Some line → slice_get bs i ≡ Some b
    → corrections encoding uri text span (drop i heads) (drop i bs) ≡ or_text (correction encoding uri text span line b) (corrections encoding uri text span (drop (i + 1) heads) (drop (i + 1) bs))
corrections_step encoding uri text span heads bs i line b there block =
    ap₂ (λ (ns : List ℕ) (cs : List PlainBlock). corrections encoding uri text span ns cs) (drop-get heads i line there) (drop-get bs i b block)

pub correction_found : (encoding : Encoding) (uri text : List ℕ) (span : LineSpan) (heads : List ℕ) (bs : List PlainBlock) (i line : ℕ) (b : PlainBlock) (made total : List ℕ) → slice_get heads i ≡ Some line → slice_get bs i ≡ Some b
    → made ≡ correction encoding uri text span line b → (length made == 0) ≡ false → corrections encoding uri text span (drop i heads) (drop i bs) ≡ total → made ≡ total
correction_found encoding uri text span heads bs i line b made total there block is some far =
    let rest = corrections encoding uri text span (drop (i + 1) heads) (drop (i + 1) bs) in
    let kept : or_text made rest ≡ made = ap (λ (t : Bool). if t then rest else made) some in
    sym kept ∙ ap (λ (x : List ℕ). or_text x rest) is ∙ sym (corrections_step encoding uri text span heads bs i line b there block) ∙ far

pub correction_next : (encoding : Encoding) (uri text : List ℕ) (span : LineSpan) (heads : List ℕ) (bs : List PlainBlock) (i line : ℕ) (b : PlainBlock) (made total : List ℕ) → slice_get heads i ≡ Some line → slice_get bs i ≡ Some b
    → made ≡ correction encoding uri text span line b → (length made == 0) ≡ true → corrections encoding uri text span (drop i heads) (drop i bs) ≡ total
    → corrections encoding uri text span (drop (i + 1) heads) (drop (i + 1) bs) ≡ total
correction_next encoding uri text span heads bs i line b made total there block is none far =
    let rest = corrections encoding uri text span (drop (i + 1) heads) (drop (i + 1) bs) in
    let passed : or_text made rest ≡ rest = ap (λ (t : Bool). if t then rest else made) none in
    sym passed ∙ ap (λ (x : List ℕ). or_text x rest) is ∙ sym (corrections_step encoding uri text span heads bs i line b there block) ∙ far

pub correction_none : (encoding : Encoding) (uri text : List ℕ) (span : LineSpan) (heads : List ℕ) (bs : List PlainBlock) (i : ℕ) → length heads ≤ i → corrections encoding uri text span (drop i heads) (drop i bs) ≡ []
correction_none encoding uri text span heads bs i past = ap (λ (ns : List ℕ). corrections encoding uri text span ns (drop i bs)) (drop_all i heads past)
