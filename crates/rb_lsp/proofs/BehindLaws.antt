-- A line further on.
use Rattle.std.proofs.Common.{◌≡◌, ℕ, zero, suc, ◌+◌, ◌-◌, ◌<◌, ◌≤◌, ◌==◌, Bool, true, false, ◌&&◌, ◌||◌, not, List, length, drop, get_or, refl, sym, ap, ◌∙◌, inl, inr, arith, add-one}
use Rattle.std.proofs.lemmas.Bool.{cases_lt, or_left, or_parts}
use Rattle.std.proofs.lemmas.List.{drop_all, drop_more, get_or-drop}
use Rattle.rb_lsp.specs.declared.document.position.Encoding.{Encoding}
use Rattle.rb_lsp.specs.declared.document.position.Position.{Position}
use Rattle.rb_lsp.specs.Places.{ends_line, feeds, is_end, next_position, position_of}
use Rattle.rb_lsp.specs.Behind.{HasNoFeed, IsLineBehind}
use Rattle.rb_lsp.proofs.PlaceLaws.{ends_none}
use Rattle.rb_lsp.proofs.PlainLaws.{first}
use Rattle.rb_lsp.proofs.PositionLaws.{position_next}

-- k bytes from i on are of no line's end
abbrev pub NoEnds : ℕ → ℕ → List ℕ → Type 0
NoEnds i k text = (j : ℕ) → j < k → is_end (get_or (drop i text) j 0) ≡ false

same_line : (e : Encoding) (b : ℕ) (rest : List ℕ) (p : Position) → ends_line b rest ≡ false → (next_position e b rest p).line ≡ p.line
same_line e b rest p goes = rw goes refl

next_line : (e : Encoding) (b : ℕ) (rest : List ℕ) (p : Position) → ends_line b rest ≡ true → next_position e b rest p ≡ first (p.line + 1)
next_line e b rest p ends = rw ends refl

line_kept : (e : Encoding) (i k : ℕ) (text : List ℕ) → i + k ≤ length text → NoEnds i k text → (position_of e (i + k) text).line ≡ (position_of e i text).line
line_kept e i zero text within none = let same : i + 0 ≡ i = omega arith in ap (λ (n : ℕ). (position_of e n text).line) same
line_kept e i (suc k) text within none =
    let on : i + suc k ≡ suc (i + k) = omega arith in
    let byte : is_end (get_or text (i + k) 0) ≡ false = ap is_end (sym (get_or-drop i text k 0)) ∙ none k (omega arith) in
    ap (λ (n : ℕ). (position_of e n text).line) on
    ∙ ap (λ (p : Position). p.line) (position_next e (i + k) text (omega arith))
    ∙ same_line e (get_or text (i + k) 0) (drop (suc (i + k)) text) (position_of e (i + k) text) (ends_none (get_or text (i + k) 0) (drop (suc (i + k)) text) byte)
    ∙ line_kept e i k text (omega arith) (λ j few. none j (omega arith))

-- behind a byte that ends a line
ended : (e : Encoding) (n : ℕ) (text : List ℕ) → n < length text → ends_line (get_or text n 0) (drop (n + 1) text) ≡ true
    → position_of e (n + 1) text ≡ first ((position_of e n text).line + 1)
ended e n text within ends =
    let so : ends_line (get_or text n 0) (drop (suc n) text) ≡ true = ap (λ (m : ℕ). ends_line (get_or text n 0) (drop m text)) (sym (add-one n)) ∙ ends in
    ap (λ (m : ℕ). position_of e m text) (add-one n) ∙ position_next e n text within ∙ next_line e (get_or text n 0) (drop (suc n) text) (position_of e n text) so

-- no LF before the byte of an end
pub none_before : (i k : ℕ) (text : List ℕ) → NoEnds i k text → HasNoFeed i (i + k) text
none_before i k text none = λ j from few.
    let place : i + (j - i) ≡ j = omega arith in
    let byte : is_end (get_or text j 0) ≡ false = ap (λ (n : ℕ). is_end (get_or text n 0)) (sym place) ∙ ap is_end (sym (get_or-drop i text (j - i) 0)) ∙ none (j - i) (omega arith) in
    (or_parts (get_or text j 0 == 10) (get_or text j 0 == 13) byte).0

pub behind_one : (i k : ℕ) (text : List ℕ) → i + k < length text → NoEnds i k text → ends_line (get_or text (i + k) 0) (drop (i + k + 1) text) ≡ true
    → IsLineBehind i text (i + k + 1)
behind_one i k text within none ends = record {
  further = omega arith;
  within = omega arith;
  none = λ j from few. none_before i k text none j from (omega (arith, few));
  first = λ e. ended e (i + k) text within ends ∙ ap (λ (l : ℕ). first (l + 1)) (line_kept e i k text (omega arith) none);
}

-- ---- CR LF

pub byte_there : (i k : ℕ) (text : List ℕ) → is_end (get_or (drop i text) k 0) ≡ true → is_end (get_or text (i + k) 0) ≡ true
byte_there i k text is = ap is_end (sym (get_or-drop i text k 0)) ∙ is

feeds_at : (n : ℕ) (text : List ℕ) → feeds (drop n text) ≡ true → (n < length text) × ((get_or text n 0 == 10) ≡ true)
feeds_at n text is =
    elim (cases_lt n (length text)) [
      | inl less ↦ (less, sym (ap feeds (drop_more text n 0 less)) ∙ is)
      | inr past ↦ let none : false ≡ true = sym (ap feeds (drop_all n text past)) ∙ is in absurd cc
    ]

-- an end that doesn't end its line is CR before LF
is_return : (feed return next : Bool) → (feed || return) ≡ true → (feed || (return && not next)) ≡ false → (feed ≡ false) × (next ≡ true)
is_return true return next is goes = absurd cc
is_return false true true is goes = (refl, refl)
is_return false true false is goes = absurd cc
is_return false false next is goes = absurd cc

pub behind_two : (i k : ℕ) (text : List ℕ) → i + k < length text → NoEnds i k text → is_end (get_or text (i + k) 0) ≡ true
    → ends_line (get_or text (i + k) 0) (drop (i + k + 1) text) ≡ false → IsLineBehind i text (i + k + 2)
behind_two i k text within none is goes =
    let b = get_or text (i + k) 0 in
    let parts = is_return (b == 10) (b == 13) (feeds (drop (i + k + 1) text)) is goes in
    let feed = feeds_at (i + k + 1) text parts.1 in
    let so : ends_line b (drop (suc (i + k)) text) ≡ false = ap (λ (m : ℕ). ends_line b (drop m text)) (sym (add-one (i + k))) ∙ goes in
    let return : (e : Encoding) → (position_of e (i + k + 1) text).line ≡ (position_of e i text).line = λ e.
    ap (λ (m : ℕ). (position_of e m text).line) (add-one (i + k))
    ∙ ap (λ (p : Position). p.line) (position_next e (i + k) text within)
    ∙ same_line e b (drop (suc (i + k)) text) (position_of e (i + k) text) so
    ∙ line_kept e i k text (omega arith) none in
    record {
      further = omega arith;
      within = omega (arith, feed.0);
      none = λ j from few. elim (cases_lt j (i + k)) [
        | inl less ↦ none_before i k text none j from less
        | inr last ↦ let same : j ≡ i + k = omega (arith, few, last) in ap (λ (n : ℕ). get_or text n 0 == 10) same ∙ parts.0
      ];
      first = λ e.
          let two : i + k + 2 ≡ i + k + 1 + 1 = omega arith in
          ap (λ (m : ℕ). position_of e m text) two
          ∙ ended e (i + k + 1) text feed.0 (or_left (get_or text (i + k + 1) 0 == 10) _ feed.1)
          ∙ ap (λ (l : ℕ). first (l + 1)) (return e);
    }
