-- Lines and columns, a byte further.
use Rattle.std.proofs.Common.{◌≡◌, ℕ, zero, suc, ◌+◌, ◌-◌, ◌<◌, ◌≤◌, Bool, true, false, ◌==◌, nat_lt, List, [], ◌∷◌, length, drop, get_or, cond, refl, sym, ap, ◌∙◌, arith}
use Rattle.std.proofs.lemmas.Bool.{or_parts}
use Rattle.std.proofs.lemmas.List.{drop_all, drop_more, drop-drop}
use Rattle.rb_lsp.specs.declared.document.position.Encoding.{Encoding}
use Rattle.rb_lsp.specs.Places.{line_start, ends_line, is_end, column, units, offset_at}

-- by a test
pub test_cases : {A : Type 0} (t : Bool) → (t ≡ true → A) → (t ≡ false → A) → A
test_cases true same other = same refl
test_cases false same other = other refl

pub first_line : (bytes : List ℕ) → line_start 0 bytes ≡ 0
unfolding line_start
first_line [] = refl
first_line (b ∷ bytes) = refl

pub no_line : (n : ℕ) → line_start n [] ≡ 0
unfolding line_start
no_line zero = refl
no_line (suc n) = refl

pub line_past : (n i : ℕ) (bytes : List ℕ) → length bytes ≤ i → line_start n (drop i bytes) ≡ 0
line_past n i bytes past = ap (line_start n) (drop_all i bytes past) ∙ no_line n

-- the byte ends a line, or it doesn't
pub line_ended : (n m i : ℕ) (bytes : List ℕ) → i < length bytes → n ≡ suc m → ends_line (get_or bytes i 0) (drop (i + 1) bytes) ≡ true → line_start n (drop i bytes) ≡ 1 + line_start m (drop (i + 1) bytes)
unfolding line_start
line_ended n m i bytes within is ends =
    ap (λ (k : ℕ). line_start k (drop i bytes)) is ∙ ap (line_start (suc m)) (drop_more bytes i 0 within)
    ∙ ap (λ (t : Bool). suc (cond t (line_start m (drop (i + 1) bytes)) (line_start (suc m) (drop (i + 1) bytes)))) ends ∙ omega arith

pub line_going : (n m i : ℕ) (bytes : List ℕ) → i < length bytes → n ≡ suc m → ends_line (get_or bytes i 0) (drop (i + 1) bytes) ≡ false → line_start n (drop i bytes) ≡ 1 + line_start n (drop (i + 1) bytes)
unfolding line_start
line_going n m i bytes within is ends =
    ap (λ (k : ℕ). line_start k (drop i bytes)) is ∙ ap (line_start (suc m)) (drop_more bytes i 0 within)
    ∙ ap (λ (t : Bool). suc (cond t (line_start m (drop (i + 1) bytes)) (line_start (suc m) (drop (i + 1) bytes)))) ends
    ∙ ap (λ (k : ℕ). suc (line_start k (drop (i + 1) bytes))) (sym is) ∙ omega arith

-- a byte that is of no line's end ends none
pub ends_none : (b : ℕ) (rest : List ℕ) → is_end b ≡ false → ends_line b rest ≡ false
ends_none b rest none =
    let parts = or_parts (b == 10) (b == 13) none in
    rw (parts.0, parts.1) refl

-- bytes that are of no line's end are passed over
skipped : (n k : ℕ) (bytes : List ℕ) → k ≤ length bytes → ((j : ℕ) → j < k → is_end (get_or bytes j 0) ≡ false)
    → line_start (suc n) bytes ≡ k + line_start (suc n) (drop k bytes)
unfolding line_start
skipped n zero bytes within none = omega arith
skipped n (suc k) [] within none = absurd (omega arith)
skipped n (suc k) (b ∷ bytes) within none =
    let goes = ends_none b bytes (none 0 (omega arith)) in
    let rest = skipped n k bytes (omega arith) (λ j few. none (suc j) (omega arith)) in
    rw goes (omega (arith, rest))

pub line_skipped : (n i k : ℕ) (bytes : List ℕ) → 0 < n → k ≤ length (drop i bytes) → ((j : ℕ) → j < k → is_end (get_or (drop i bytes) j 0) ≡ false)
    → line_start n (drop i bytes) ≡ k + line_start n (drop (i + k) bytes)
line_skipped zero i k bytes some within none = absurd (omega arith)
line_skipped (suc n) i k bytes some within none =
    skipped n k (drop i bytes) within none ∙ ap (λ (l : List ℕ). k + line_start (suc n) l) (drop-drop k i bytes)

-- ---- a line further on

on_from : (l m : ℕ) (bytes : List ℕ) → line_start (l + m) bytes ≡ line_start l bytes + line_start m (drop (line_start l bytes) bytes)
unfolding line_start
on_from zero m bytes =
    let none : 0 + m ≡ m = omega arith in
    rw (none, first_line bytes) (omega arith)
on_from (suc l) m [] = rw (no_line (suc l + m), no_line m) refl
on_from (suc l) m (b ∷ bytes) =
    let more : suc l + m ≡ suc (l + m) = omega arith in
    rw more (
    test_cases (ends_line b bytes)
    (λ ends. rw ends (omega (arith, on_from l m bytes)))
    (λ goes. rw goes (omega (arith, rw more at (on_from (suc l) m bytes))))
    )

pub offset_on : (e : Encoding) (line further character : ℕ) (bytes : List ℕ) → line ≤ further
    → line_start line bytes + offset_at e (further - line) character (drop (line_start line bytes) bytes) ≡ offset_at e further character bytes
offset_on e line further character bytes before =
    let start = line_start line bytes in
    let rest = line_start (further - line) (drop start bytes) in
    let same : line_start further bytes ≡ start + rest = ap (λ (n : ℕ). line_start n bytes) (omega arith) ∙ on_from line (further - line) bytes in
    let behind : column e character (drop rest (drop start bytes)) ≡ column e character (drop (line_start further bytes) bytes) =
    ap (column e character) (drop-drop rest start bytes ∙ ap (λ (n : ℕ). drop n bytes) (sym same)) in
    omega (arith, same, behind)

-- ---- columns

pub column_past : (e : Encoding) (n i : ℕ) (bytes : List ℕ) → length bytes ≤ i → column e n (drop i bytes) ≡ 0
unfolding column
column_past e n i bytes past = ap (column e n) (drop_all i bytes past)

-- one byte more of a line
column_at : (e : Encoding) (n i : ℕ) (bytes : List ℕ) → i < length bytes
    → column e n (drop i bytes) ≡ cond (is_end (get_or bytes i 0)) 0 (cond (nat_lt n (units e (get_or bytes i 0))) 0 (suc (column e (n - units e (get_or bytes i 0)) (drop (i + 1) bytes))))
unfolding column
column_at e n i bytes within = ap (column e n) (drop_more bytes i 0 within)

pub column_ended : (e : Encoding) (n i : ℕ) (bytes : List ℕ) → i < length bytes → is_end (get_or bytes i 0) ≡ true → column e n (drop i bytes) ≡ 0
column_ended e n i bytes within ends = column_at e n i bytes within ∙ rw ends

pub column_full : (e : Encoding) (n i : ℕ) (bytes : List ℕ) → i < length bytes → is_end (get_or bytes i 0) ≡ false → nat_lt n (units e (get_or bytes i 0)) ≡ true → column e n (drop i bytes) ≡ 0
column_full e n i bytes within ends full = column_at e n i bytes within ∙ rw (ends, full)

pub column_going : (e : Encoding) (n i : ℕ) (bytes : List ℕ) → i < length bytes → is_end (get_or bytes i 0) ≡ false → nat_lt n (units e (get_or bytes i 0)) ≡ false
    → column e n (drop i bytes) ≡ 1 + column e (n - units e (get_or bytes i 0)) (drop (i + 1) bytes)
column_going e n i bytes within ends full = column_at e n i bytes within ∙ rw (ends, full) (omega arith)
