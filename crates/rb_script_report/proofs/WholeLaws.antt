-- Lines with their ends.
use Rattle.std.proofs.Common.{◌≡◌, ◌≢◌, ◌∙◌, ℕ, zero, suc, ◌+◌, ◌-◌, ◌<◌, ◌≤◌, Bool, true, false, cond, eqb, List, [], ◌∷◌, ◌++◌, length, take, drop, get_or, eq-eqb, add-one, Some, refl, ap, ap₂, sym, arith, append_assoc, append-nil, length-append}
use Rattle.std.specs.Prelude.{◌==◌, ◌||◌, slice_get}
use Rattle.std.specs.List.{list_any}
use Rattle.std.proofs.lemmas.Bool.{ne_eqb}
use Rattle.std.proofs.lemmas.List.{drop_all, drop-append-le, take-append-le, take_at, take_rest}
use Rattle.rb_script.specs.Bytes.{line_feed}
use Rattle.rb_script.specs.Lines.{Line, put_before, without_returns}
use Rattle.rb_script.proofs.ListLaws.{drop_there}
use Rattle.rb_script_report.specs.WholeLines.{whole_line, after_line, whole_lines, after_lines, is_ended, before_feed, last_end, ended, unended, with_ends}

-- ---- after lines

after_cut : (bytes : List ℕ) (end : ℕ) → end < length bytes → get_or bytes end 0 ≡ 10 → ((k : ℕ) → k < end → get_or bytes k 0 ≢ 10) → after_line bytes ≡ drop (suc end) bytes
unfolding after_line
after_cut [] end lt at before = absurd (omega arith)
after_cut (b ∷ bytes) zero lt at before = rw (eq-eqb b 10 at) refl
after_cut (b ∷ bytes) (suc end) lt at before = rw (ne_eqb b 10 (before 0 (omega arith))) (after_cut bytes end (omega arith) at (λ k h. before (suc k) (omega arith)))

-- what is after the first LF
pub after_at : (bytes : List ℕ) (end : ℕ) → end < length bytes → get_or bytes end 0 ≡ 10 → ((k : ℕ) → k < end → get_or bytes k 0 ≢ 10) → take (length bytes - (end + 1)) (drop (end + 1) bytes) ≡ after_line bytes
after_at bytes end lt at before = rw (take_rest bytes (end + 1), add-one) (sym (after_cut bytes end lt at before))

pub after_none : (bytes : List ℕ) → ((k : ℕ) → k < length bytes → get_or bytes k 0 ≢ 10) → [] ≡ after_line bytes
unfolding after_line
after_none [] none = refl
after_none (b ∷ bytes) none = rw (ne_eqb b 10 (none 0 (omega arith))) (after_none bytes (λ k h. none (suc k) (omega arith)))

-- one line more
pub after_more : (n : ℕ) (bytes : List ℕ) → 0 < n → after_lines (n - 1) (after_line bytes) ≡ after_lines n bytes
unfolding after_lines
after_more zero bytes some = absurd (omega arith)
after_more (suc n) bytes some = let left : suc n - 1 ≡ n = omega arith in ap (λ (k : ℕ). after_lines k (after_line bytes)) left

pub after_no_more : (n : ℕ) (bytes : List ℕ) → n ≤ 0 → bytes ≡ after_lines n bytes
unfolding after_lines
after_no_more zero bytes h = refl
after_no_more (suc n) bytes h = absurd (omega arith)

-- ---- lines, and what is after them

line_split : (bytes : List ℕ) → whole_line bytes ++ after_line bytes ≡ bytes
unfolding whole_line after_line
line_split [] = refl
line_split (b ∷ bytes) =
    elim (eqb b 10) as (λ t. cond t (b ∷ []) (b ∷ whole_line bytes) ++ cond t bytes (after_line bytes) ≡ b ∷ bytes) [
      | true ↦ refl
      | false ↦ ap (λ (l : List ℕ). b ∷ l) (line_split bytes)
    ]

-- they are the bytes
pub lines_split : (n : ℕ) (bytes : List ℕ) → whole_lines n bytes ++ after_lines n bytes ≡ bytes
unfolding whole_lines after_lines
lines_split zero bytes = refl
lines_split (suc n) bytes =
    append_assoc (whole_line bytes) (whole_lines n (after_line bytes)) (after_lines n (after_line bytes))
    ∙ ap (λ (l : List ℕ). whole_line bytes ++ l) (lines_split n (after_line bytes))
    ∙ line_split bytes

pub front_is : (front rest bytes : List ℕ) → front ++ rest ≡ bytes → take (length bytes - length rest) bytes ≡ front
front_is front rest bytes e =
    let len : length bytes - length rest ≡ length front = omega (arith, ap length e, length-append front rest) in
    ap (λ (k : ℕ). take k bytes) len ∙ ap (λ (l : List ℕ). take (length front) l) (sym e) ∙ take_at front rest (length front) refl

-- ---- ends

pub ended_last : (xs : List ℕ) (b : ℕ) → is_ended (xs ++ b ∷ []) ≡ eqb b 10
unfolding is_ended
ended_last [] b = refl
ended_last (x ∷ []) b = refl
ended_last (x ∷ y ∷ xs) b = ended_last (y ∷ xs) b

pub ended_nil : (bytes : List ℕ) → length bytes ≡ 0 → false ≡ is_ended bytes
unfolding is_ended
ended_nil [] e = refl
ended_nil (b ∷ bytes) e = absurd (omega (arith, e))

or_true : (t : Bool) → (t || true) ≡ true
or_true true = refl
or_true false = refl

any_at : (xs : List ℕ) → list_any (λ c. c == line_feed) (xs ++ line_feed ∷ []) ≡ true
any_at [] = refl
any_at (x ∷ xs) = ap (λ (t : Bool). (x == line_feed) || t) (any_at xs) ∙ or_true (x == line_feed)

before_at : (xs : List ℕ) → before_feed (xs ++ line_feed ∷ []) ≡ xs
unfolding before_feed
before_at [] = refl
before_at (x ∷ xs) = ap (λ (t : Bool). cond t (x ∷ before_feed (xs ++ line_feed ∷ [])) []) (any_at xs) ∙ ap (λ (l : List ℕ). x ∷ l) (before_at xs)

any_past : (xs : List ℕ) (b : ℕ) → eqb b 10 ≡ false → list_any (λ c. c == line_feed) (xs ++ b ∷ []) ≡ list_any (λ c. c == line_feed) xs
any_past [] b ne = ap (λ (t : Bool). t || false) ne
any_past (x ∷ xs) b ne = ap (λ (t : Bool). (x == line_feed) || t) (any_past xs b ne)

before_past : (xs : List ℕ) (b : ℕ) → eqb b 10 ≡ false → before_feed (xs ++ b ∷ []) ≡ before_feed xs
unfolding before_feed
before_past [] b ne = refl
before_past (x ∷ xs) b ne = ap₂ (λ (t : Bool) (l : List ℕ). cond t (x ∷ l) []) (any_past xs b ne) (before_past xs b ne)

end_at : (xs line : List ℕ) → line ≡ without_returns xs → length line ≤ length xs → drop (length line) (xs ++ line_feed ∷ []) ≡ last_end (xs ++ line_feed ∷ [])
unfolding last_end
end_at xs line is fits =
    drop-append-le (length line) xs (line_feed ∷ []) fits
    ∙ ap (λ (l : List ℕ). drop (length l) xs ++ line_feed ∷ []) is
    ∙ sym (ap (λ (l : List ℕ). drop (length (without_returns l)) l ++ line_feed ∷ []) (before_at xs))

-- the last byte is an LF
pub end_found : (front shorter bytes line : List ℕ) (last : ℕ) → front ≡ shorter ++ last ∷ [] → last ≡ 10 → line ≡ without_returns shorter → length line ≤ length shorter → last_end front ≡ last_end bytes
    → take (length front - length line) (drop (length line) front) ≡ last_end bytes
end_found front shorter bytes line last parts feed is fits so_far =
    let whole : front ≡ shorter ++ line_feed ∷ [] = parts ∙ ap (λ (b : ℕ). shorter ++ b ∷ []) feed in
    take_rest front (length line) ∙ ap (λ (l : List ℕ). drop (length line) l) whole ∙ end_at shorter line is fits ∙ sym (ap last_end whole) ∙ so_far

-- it is not
pub end_past : (front shorter bytes : List ℕ) (last : ℕ) → front ≡ shorter ++ last ∷ [] → last ≢ 10 → last_end front ≡ last_end bytes → last_end shorter ≡ last_end bytes
unfolding last_end
end_past front shorter bytes last parts other so_far =
    let same : before_feed front ≡ before_feed shorter = ap before_feed parts ∙ before_past shorter last (ne_eqb last 10 other) in
    sym (ap (λ (l : List ℕ). drop (length (without_returns l)) l ++ line_feed ∷ []) same) ∙ so_far

-- there is none
pub end_none : (front bytes : List ℕ) → length front ≡ 0 → last_end front ≡ last_end bytes → line_feed ∷ [] ≡ last_end bytes
unfolding last_end before_feed without_returns
end_none [] bytes e so_far = so_far
end_none (b ∷ front) bytes e so_far = absurd (omega (arith, e))

-- ---- without the last end

pub unended_at : (bytes front line : List ℕ) (last : ℕ) → bytes ≡ front ++ last ∷ [] → last ≡ 10 → line ≡ without_returns front → line ≡ unended bytes
unfolding unended
unended_at bytes front line last parts feed is =
    let whole : bytes ≡ front ++ line_feed ∷ [] = parts ∙ ap (λ (b : ℕ). front ++ b ∷ []) feed in
    is
    ∙ ap without_returns (sym (before_at front) ∙ sym (ap before_feed whole))
    ∙ sym (ap (λ (t : Bool). cond t (without_returns (before_feed bytes)) bytes) (ap is_ended whole ∙ ended_last front line_feed))

pub unended_same : (bytes : List ℕ) → is_ended bytes ≡ false → bytes ≡ unended bytes
unfolding unended
unended_same bytes none = sym (ap (λ (t : Bool). cond t (without_returns (before_feed bytes)) bytes) none)

put_front : (b : ℕ) (l xs : List ℕ) → l ≡ take (length l) xs → put_before b l ≡ take (length (put_before b l)) (b ∷ xs)
put_front b [] xs e = elim (eqb b 13) as (λ t. cond t [] (b ∷ []) ≡ take (length (cond t [] (b ∷ []))) (b ∷ xs)) [ true ↦ refl | false ↦ refl ]
put_front b (c ∷ l) xs e = ap (λ (t : List ℕ). b ∷ t) e

returns_front : (xs : Line) → without_returns xs ≡ take (length (without_returns xs)) xs
unfolding without_returns
returns_front [] = refl
returns_front (b ∷ xs) = put_front b (without_returns xs) xs (returns_front xs)

pub line_front : (bytes front line : List ℕ) (last : ℕ) → bytes ≡ front ++ last ∷ [] → line ≡ without_returns front → length line ≤ length front → line ≡ take (length line) bytes
line_front bytes front line last parts is fits =
    let short : line ≡ take (length line) front = is ∙ returns_front front ∙ ap (λ (l : List ℕ). take (length l) front) (sym is) in
    short ∙ sym (take-append-le (length line) front (last ∷ []) fits) ∙ ap (λ (l : List ℕ). take (length line) l) (sym parts)

-- ---- lines with an end

-- one line more
pub ends_more : (made new end : List ℕ) (ls : List Line) (i : ℕ) (line : Line) (all : List ℕ) → slice_get ls i ≡ Some line → new ≡ made ++ (line ++ end) → made ++ with_ends end (drop i ls) ≡ all
    → new ++ with_ends end (drop (i + 1) ls) ≡ all
ends_more made new end ls i line all got is so_far =
    ap (λ (l : List ℕ). l ++ with_ends end (drop (i + 1) ls)) is
    ∙ append_assoc made (line ++ end) (with_ends end (drop (i + 1) ls))
    ∙ ap (λ (l : List ℕ). made ++ l) (sym (ap (with_ends end) (drop_there ls i line got)))
    ∙ so_far

-- all
pub ends_all : (made end : List ℕ) (ls : List Line) (i : ℕ) (all : List ℕ) → length ls ≤ i → made ++ with_ends end (drop i ls) ≡ all → made ≡ all
ends_all made end ls i all past so_far =
    sym (append-nil made) ∙ ap (λ (l : List Line). made ++ with_ends end l) (sym (drop_all i ls past)) ∙ so_far
