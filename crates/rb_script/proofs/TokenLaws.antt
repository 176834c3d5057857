-- The bytes of a joined head, and runs of bytes of a class.
use Rattle.std.proofs.Common.{◌≡◌, ℕ, ◌+◌, ◌-◌, ◌≤◌, ◌<◌, Bool, true, false, cond, List, [], ◌∷◌, ◌++◌, length, take, drop, zero, suc, refl, ap, sym, ◌∙◌, arith}
use Rattle.std.specs.Prelude.{slice_get, Some, None}
use Rattle.std.specs.List.{AllByRecursion}
use Rattle.std.proofs.lemmas.List.{append-nil, drop_more, take_all, drop_all, take_rest, drop-drop, take_at, take-take, drop-take, length-drop, length-take}
use Rattle.std.proofs.lemmas.Option.{get_or_from_slice_get}
use Rattle.rb_script.specs.declared.limits.TheConstants.{MAX_LINE}
use Rattle.rb_script.specs.Lines.{Line}
use Rattle.rb_script.specs.LineParts.{AsksForNext}
use Rattle.rb_script.specs.Valid.{IsLine}
use Rattle.rb_script.specs.Marks.{continues}
use Rattle.rb_script.specs.Joined.{body, behind_piece, joined}
use Rattle.rb_script.specs.Runs.{while_of, after_while}
use Rattle.rb_script.specs.Tokens.{line_at}
use Rattle.rb_script.specs.Directive.{is_some_piece}
use Rattle.rb_script.proofs.ListLaws.{drop_there}
use Rattle.rb_script.proofs.RunLaws.{begins_by, after_one, no_run_after}
use Rattle.rb_script.proofs.LinePartLaws.{joined_next}

-- no line of a head is long
pub line_short : (head : List Line) (n : ℕ) → AllByRecursion IsLine head → length (line_at head n) ≤ MAX_LINE
line_short [] n h = omega arith
line_short (line ∷ head) zero h = h.0.short
line_short (line ∷ head) (suc n) h = line_short head n h.1

-- a word ends with its line's piece
pub after_while_append : (p : ℕ → Bool) (bytes : List ℕ) (more : Bool) (ls : List Line) → p 32 ≡ false → after_while p (bytes ++ behind_piece more ls) ≡ after_while p bytes ++ behind_piece more ls
unfolding after_while
after_while_append p [] true ls h = ap (λ t. cond t (after_while p (joined ls)) (32 ∷ joined ls)) h
after_while_append p [] false ls h = refl
after_while_append p (b ∷ bytes) more ls h =
    elim (p b) as (λ t. cond t (after_while p (bytes ++ behind_piece more ls)) (b ∷ (bytes ++ behind_piece more ls)) ≡ cond t (after_while p bytes) (b ∷ bytes) ++ behind_piece more ls) [ true ↦ after_while_append p bytes more ls h | false ↦ refl ]

-- the place after so many bytes of a piece as stand in the run
pub advanced : (p : ℕ → Bool) (bytes : List ℕ) (at n : ℕ) (more : Bool) (ls : List Line) → p 32 ≡ false → drop n (take (length bytes - at) (drop at bytes)) ≡ after_while p (take (length bytes - at) (drop at bytes)) → drop (at + n) bytes ++ behind_piece more ls ≡ after_while p (drop at bytes ++ behind_piece more ls)
advanced p bytes at n more ls h e =
    let whole = take_rest bytes at in
    let step : drop (at + n) bytes ≡ after_while p (drop at bytes) = sym (drop-drop n at bytes) ∙ ap (drop n) (sym whole) ∙ e ∙ ap (after_while p) whole in
    ap (λ (l : List ℕ). l ++ behind_piece more ls) step ∙ sym (after_while_append p (drop at bytes) more ls h)

-- ---- the joined head from a line on

module _ (head : List Line) (line : ℕ) (text : Line) (found : slice_get head line ≡ Some text) where
  -- a line that asks for the next gives what stands before its backslash, and a blank before what follows
  pub joined_more : (asks : AsksForNext text) (piece : Line) → asks.body ≡ piece → joined (drop line head) ≡ piece ++ 32 ∷ joined (drop (line + 1) head)
  joined_more asks piece is =
      let rest = drop (line + 1) head in
      ap joined (drop_there head line text found) ∙ ap (λ (l : Line). joined (l ∷ rest)) asks.parts ∙ joined_next asks.body asks.blanks rest asks.blank ∙ ap (λ (l : Line). l ++ 32 ∷ joined rest) is

  -- any other line is the last, and gives all of itself
  pub joined_last : continues text ≡ false → joined (drop line head) ≡ text ++ []
  unfolding joined
  joined_last h =
      ap joined (drop_there head line text found) ∙ ap (λ t. cond t (body text ++ 32 ∷ joined (drop (line + 1) head)) text) h ∙ sym (append-nil text)

  -- a beginning of the text is one of the line at that index
  pub part_of_line : (piece : Line) → piece ≡ take (length piece) text → piece ≡ take (length piece) (line_at head line)
  part_of_line piece part = part ∙ ap (take (length piece)) (sym (get_or_from_slice_get head line text [] found))

  -- the text is all of the line at that index
  pub whole_line : text ≡ take (length text) (line_at head line)
  whole_line = part_of_line text (sym (take_all (length text) text (omega arith)))

  -- so is what stands before its backslash
  pub body_of_line : (asks : AsksForNext text) (piece : Line) → asks.body ≡ piece → piece ≡ take (length piece) (line_at head line)
  body_of_line asks piece is =
      part_of_line piece (sym (take_at piece (92 ∷ asks.blanks) (length piece) refl) ∙ ap (λ (l : Line). take (length piece) (l ++ 92 ∷ asks.blanks)) (sym is) ∙ ap (take (length piece)) (sym asks.parts))

-- a beginning is no longer than the whole
pub part_fits : (piece line : Line) → piece ≡ take (length piece) line → length piece ≤ length line
part_fits piece line part = omega (arith, ap length part, length-take (length piece) line)

-- ---- one byte on

-- within a piece
pub advance_within : (piece : Line) (at : ℕ) (more : Bool) (ls : List Line) → at < length piece → drop (at + 1) piece ++ behind_piece more ls ≡ drop 1 (drop at piece ++ behind_piece more ls)
advance_within piece at more ls lt = sym (ap (λ (l : List ℕ). drop 1 (l ++ behind_piece more ls)) (drop_more piece at 0 lt))

-- at the end of a piece: what follows is the joined head of the lines after it
pub advance_over : (piece : Line) (at : ℕ) (more : Bool) (ls : List Line) → length piece ≤ at → 0 < length (drop at piece ++ behind_piece more ls) → drop 1 (drop at piece ++ behind_piece more ls) ≡ joined ls
advance_over piece at true ls le some = ap (λ (l : List ℕ). drop 1 (l ++ behind_piece true ls)) (drop_all at piece le)
advance_over piece at false ls le some = absurd (omega (arith, ap (λ (l : List ℕ). length (l ++ behind_piece false ls)) (drop_all at piece le)))

-- past the last line nothing is joined
pub joined_past : (line : ℕ) (head : List Line) → length head ≤ line → joined (drop line head) ≡ []
unfolding joined
joined_past line head le = ap joined (drop_all line head le)

-- ---- a token

-- a word ends with its line's piece
pub while_of_append : (p : ℕ → Bool) (bytes : List ℕ) (more : Bool) (ls : List Line) → p 32 ≡ false → while_of p (bytes ++ behind_piece more ls) ≡ while_of p bytes
unfolding while_of
while_of_append p [] true ls h = ap (λ t. cond t (32 ∷ while_of p (joined ls)) []) h
while_of_append p [] false ls h = refl
while_of_append p (b ∷ bytes) more ls h = ap (λ (l : List ℕ). cond (p b) (b ∷ l) []) (while_of_append p bytes more ls h)

-- the bytes of a token are those of the class at the front
pub taken : (p : ℕ → Bool) (line piece : Line) (at n : ℕ) (more : Bool) (ls : List Line) → p 32 ≡ false → piece ≡ take (length piece) line → at ≤ length piece → n ≤ length (take (length piece - at) (drop at piece)) → take n (take (length piece - at) (drop at piece)) ≡ while_of p (take (length piece - at) (drop at piece)) → take (at + n - at) (drop at line) ≡ while_of p (drop at piece ++ behind_piece more ls)
taken p line piece at n more ls h part within le run =
    let whole = take_rest piece at in
    let room : n ≤ length piece - at = omega (arith, ap length whole, length-drop at piece) in
    let count : at + n - at ≡ n = omega arith in
    let bound : length piece ≡ at + (length piece - at) = omega arith in
    let rest : drop at piece ≡ take (length piece - at) (drop at line) =
    ap (drop at) (part ∙ ap (λ (k : ℕ). take k line) bound) ∙ drop-take at (length piece - at) line in
    ap (λ (k : ℕ). take k (drop at line)) count ∙ sym (take-take n (length piece - at) (drop at line) room) ∙ ap (take n) (sym rest)
    ∙ ap (take n) (sym whole) ∙ run ∙ ap (while_of p) whole ∙ sym (while_of_append p (drop at piece) more ls h)

-- ---- runs of bytes of a class

-- a run of the class is there where the first byte is of it
pub some_run : (p : ℕ → Bool) (bytes : List ℕ) → is_some_piece (while_of p bytes) ≡ begins_by p bytes
unfolding while_of
some_run p [] = refl
some_run p (b ∷ bytes) = elim (p b) as (λ t. is_some_piece (cond t (b ∷ while_of p bytes) []) ≡ t) [ true ↦ refl | false ↦ refl ]

-- what the first byte is
pub begins_at : (p : ℕ → Bool) (bytes : List ℕ) (b : ℕ) → Some b ≡ slice_get bytes 0 → begins_by p bytes ≡ p b
begins_at p [] b front = absurd cc
begins_at p (x ∷ bytes) b front =
    let same : b ≡ x = cc in
    ap p (sym same)

-- there is no first byte, so no byte
pub begins_nowhere : (bytes : List ℕ) → None ≡ slice_get bytes 0 → bytes ≡ []
begins_nowhere [] front = refl
begins_nowhere (b ∷ bytes) front = absurd cc

-- the first byte and what follows it
pub front_cons : (bytes : List ℕ) (b : ℕ) (next : List ℕ) → Some b ≡ slice_get bytes 0 → next ≡ drop 1 bytes → bytes ≡ b ∷ next
front_cons [] b next front is = absurd cc
front_cons (x ∷ bytes) b next front is = cc

-- ---- past the bytes of a class

module _ (p : ℕ → Bool) (left : List ℕ) (b : ℕ) (front : Some b ≡ slice_get left 0) where
  whole : left ≡ b ∷ drop 1 left
  whole = front_cons left b (drop 1 left) front refl

  -- one byte of the class
  pub skip_more : (next total : List ℕ) → p b ≡ true → next ≡ drop 1 left → after_while p left ≡ total → after_while p next ≡ total
  skip_more next total h is so_far = ap (after_while p) is ∙ sym (ap (after_while p) whole ∙ after_one p b (drop 1 left) h) ∙ so_far

  -- a byte of another class
  pub skip_stop : (total : List ℕ) → p b ≡ false → after_while p left ≡ total → left ≡ total
  skip_stop total h so_far = sym (no_run_after p left (begins_at p left b front ∙ h)) ∙ so_far

-- at the end nothing is left
pub skip_nil : (p : ℕ → Bool) (left total : List ℕ) → None ≡ slice_get left 0 → after_while p left ≡ total → left ≡ total
unfolding after_while
skip_nil p [] total front so_far = so_far
skip_nil p (b ∷ left) total front so_far = absurd cc
