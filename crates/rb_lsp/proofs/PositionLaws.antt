-- Positions and places.
use Rattle.std.proofs.Common.{◌≡◌, ℕ, zero, suc, ◌+◌, ◌*◌, ◌<◌, ◌≤◌, Bool, true, false, ◌&&◌, ◌||◌, not, nat_lt, ◌==◌, List, [], ◌∷◌, length, drop, get_or, cond, refl, sym, ap, subst, ◌∙◌, arith, add-one}
use Rattle.std.proofs.lemmas.Bool.{and_parts, le-ltb}
use Rattle.std.proofs.lemmas.Bool.Decides.{nat_tests}
use Rattle.rb_lsp.specs.declared.document.position.Encoding.{Encoding}
use Rattle.rb_lsp.specs.declared.document.position.Encoding.TheVariants.{Utf8, Utf16}
use Rattle.rb_lsp.specs.declared.document.position.Position.{Position}
use Rattle.rb_lsp.specs.Places.{line_start, ends_line, is_end, feeds, begins, is_within, column, units, offset_at, offset, START, position_of, below, beside, beside_at, next_position, is_place_behind}
use Rattle.rb_lsp.proofs.PlaceLaws.{first_line}

abbrev at : ℕ → ℕ → Position
at line character = record { line = line; character = character }

-- ---- a byte further at the end

beside_next : (n l c : ℕ) → beside_at n (l + 1) c ≡ at (l + 1) c
beside_next n l c = rw (add-one l) refl

below_step : (t : Bool) (u : ℕ) (p : Position) → below (cond t (at (p.line + 1) 0) (at p.line (p.character + u))) ≡ cond t (at (suc p.line + 1) 0) (at (suc p.line) (p.character + u))
below_step true u p = ap (λ (l : ℕ). at l 0) (omega arith)
below_step false u p = refl

beside_step : (t : Bool) (n u line character : ℕ)
    → beside n (cond t (at (line + 1) 0) (at line (character + u)))
    ≡ cond t (at ((beside_at n line character).line + 1) 0) (at (beside_at n line character).line ((beside_at n line character).character + u))
beside_step true n u zero character = refl
beside_step true n u (suc line) character = beside_next n (suc line) 0
beside_step false n u zero character = ap (λ (c : ℕ). at 0 c) (omega arith)
beside_step false n u (suc line) character = refl

first_step : (t : Bool) (u : ℕ) → cond t (below START) (beside u START) ≡ cond t (at (0 + 1) 0) (at 0 (0 + u))
first_step true u = refl
first_step false u = ap (λ (c : ℕ). at 0 c) (omega arith)

further_step : (s t : Bool) (n u : ℕ) (p : Position)
    → cond s (below (cond t (at (p.line + 1) 0) (at p.line (p.character + u)))) (beside n (cond t (at (p.line + 1) 0) (at p.line (p.character + u))))
    ≡ cond t (at ((cond s (below p) (beside n p)).line + 1) 0) (at (cond s (below p) (beside n p)).line ((cond s (below p) (beside n p)).character + u))
further_step true t n u p = below_step t u p
further_step false t n u p = beside_step t n u p.line p.character

-- the position behind one more byte
pub position_next : (e : Encoding) (k : ℕ) (text : List ℕ) → k < length text
    → position_of e (suc k) text ≡ next_position e (get_or text k 0) (drop (suc k) text) (position_of e k text)
unfolding position_of
position_next e k [] h = absurd (omega arith)
position_next e zero (b ∷ bytes) h = first_step (ends_line b bytes) (units e b)
position_next e (suc k) (b ∷ bytes) h =
    ap (λ (p : Position). cond (ends_line b bytes) (below p) (beside (units e b) p)) (position_next e k bytes (omega arith))
    ∙ further_step (ends_line b bytes) (ends_line (get_or bytes k 0) (drop (suc k) bytes)) (units e b) (units e (get_or bytes k 0)) (position_of e k bytes)

pub units_few : (e : Encoding) (b : ℕ) → units e b ≤ 4
units_few Utf8 b = grind (arith, nat_tests)
units_few Utf16 b = grind (arith, nat_tests)

-- the same, of what a function made of the byte
pub position_more : (e : Encoding) (i : ℕ) (text : List ℕ) (p q : Position) → i < length text → p ≡ position_of e i text
    → q ≡ next_position e (get_or text i 0) (drop (i + 1) text) p → q ≡ position_of e (i + 1) text
position_more e i text p q within before is =
    is ∙ ap (next_position e (get_or text i 0) (drop (i + 1) text)) before ∙ rw (add-one i) (sym (position_next e i text within))

step_few : (t : Bool) (u i : ℕ) (p : Position) → u ≤ 4 → p.line ≤ i → p.character ≤ 4 * i
    → ((cond t (at (p.line + 1) 0) (at p.line (p.character + u))).line ≤ i + 1) × ((cond t (at (p.line + 1) 0) (at p.line (p.character + u))).character ≤ 4 * (i + 1))
step_few true u i p few line character = (omega arith, omega arith)
step_few false u i p few line character = (omega arith, omega arith)

-- it is no further than the bytes are many
pub position_few : (e : Encoding) (b i : ℕ) (rest : List ℕ) (p q : Position) → p.line ≤ i → p.character ≤ 4 * i → q ≡ next_position e b rest p
    → (q.line ≤ i + 1) × (q.character ≤ 4 * (i + 1))
position_few e b i rest p q line character is =
    subst (λ (r : Position). (r.line ≤ i + 1) × (r.character ≤ 4 * (i + 1))) (sym is) (step_few (ends_line b rest) (units e b) i p (units_few e b) line character)

-- ---- a byte further at the front

below_offset : (e : Encoding) (b : ℕ) (bytes : List ℕ) (line character : ℕ) → ends_line b bytes ≡ true → offset_at e (suc line) character (b ∷ bytes) ≡ suc (offset_at e line character bytes)
unfolding line_start
below_offset e b bytes line character ends = rw ends (omega arith)

beside_column : (e : Encoding) (b : ℕ) (bytes : List ℕ) (character : ℕ) → is_end b ≡ false → column e (units e b + character) (b ∷ bytes) ≡ suc (column e character bytes)
unfolding column
beside_column e b bytes character none =
    rw (none, le-ltb (units e b + character) (units e b) (omega arith)) (ap (λ (c : ℕ). suc (column e c bytes)) (omega arith))

beside_offset : (e : Encoding) (b : ℕ) (bytes : List ℕ) (line character : ℕ) → ends_line b bytes ≡ false → (line ≡ 0 → is_end b ≡ false)
    → offset e (beside_at (units e b) line character) (b ∷ bytes) ≡ suc (offset_at e line character bytes)
unfolding line_start
beside_offset e b bytes zero character goes none =
    let column = beside_column e b bytes character (none refl) in
    rw (first_line (b ∷ bytes), first_line bytes) (omega (arith, column))
beside_offset e b bytes (suc line) character goes none = rw goes (omega arith)

-- ---- a place and its position

some_units : (e : Encoding) (b : ℕ) → not (is_within b) ≡ true → nat_lt 0 (units e b) ≡ true
some_units Utf8 b out = grind (arith, nat_tests)
some_units Utf16 b out = grind (arith, nat_tests)

no_column : (t : Bool) → ◌≡◌ {A = ℕ} (cond t 0 0) 0
no_column true = refl
no_column false = refl

first_column : (e : Encoding) (bytes : List ℕ) → begins bytes ≡ true → column e 0 bytes ≡ 0
unfolding column
first_column e [] begin = refl
first_column e (b ∷ bytes) begin = rw (some_units e b begin) (no_column (is_end b))

first_offset : (e : Encoding) (bytes : List ℕ) → begins bytes ≡ true → offset_at e 0 0 bytes ≡ 0
first_offset e bytes begin = rw (first_line bytes) (omega (arith, first_column e bytes begin))

-- CR before what isn't LF ends a line, and one before LF is no place's neighbour
no_end_here : (feed return next begin : Bool) → (begin && not (return && next)) ≡ true → (feed || (return && not next)) ≡ false → (feed || return) ≡ false
no_end_here true return next begin place goes = goes
no_end_here false true true true place goes = sym place
no_end_here false true true false place goes = sym place
no_end_here false true false begin place goes = goes
no_end_here false false next begin place goes = refl

no_end_before : (feed return next other : Bool) (n : ℕ) (p : Position) → (cond (next || other) (below p) (beside n p)).line ≡ 0 → (feed || (return && not next)) ≡ false → (feed || return) ≡ false
no_end_before true return next other n p first goes = goes
no_end_before false true true other n p first goes = absurd (omega arith)
no_end_before false true false other n p first goes = goes
no_end_before false false next other n p first goes = refl

no_end : (e : Encoding) (k b : ℕ) (bytes : List ℕ) → is_place_behind b k bytes ≡ true → (position_of e k bytes).line ≡ 0 → ends_line b bytes ≡ false → is_end b ≡ false
unfolding is_place_behind position_of
no_end e zero b bytes place first goes = no_end_here (b == 10) (b == 13) (feeds bytes) (begins bytes) place goes
no_end e (suc k) b [] place first goes = cc
no_end e (suc k) b (c ∷ bytes) place first goes =
    no_end_before (b == 10) (b == 13) (c == 10) (c == 13 && not (feeds bytes)) (units e c) (position_of e k bytes) first goes

-- the position of a place further leads back to it, if that of the place itself does
place_further : (e : Encoding) (b k : ℕ) (bytes : List ℕ) (p : Position) (t : Bool) → ends_line b bytes ≡ t → (p.line ≡ 0 → ends_line b bytes ≡ false → is_end b ≡ false)
    → offset e p bytes ≡ k → offset e (cond t (below p) (beside (units e b) p)) (b ∷ bytes) ≡ suc k
place_further e b k bytes p true is guard back = below_offset e b bytes p.line p.character is ∙ ap suc back
place_further e b k bytes p false is guard back = beside_offset e b bytes p.line p.character is (λ first. guard first is) ∙ ap suc back

pub place_returns : (e : Encoding) (before k : ℕ) (bytes : List ℕ) → is_place_behind before k bytes ≡ true → offset e (position_of e k bytes) bytes ≡ k
unfolding is_place_behind position_of
place_returns e before zero bytes place = first_offset e bytes (and_parts _ _ place).0
place_returns e before (suc k) [] place = cc
place_returns e before (suc k) (b ∷ bytes) place =
    place_further e b k bytes (position_of e k bytes) (ends_line b bytes) refl (no_end e k b bytes place) (place_returns e b k bytes place)
