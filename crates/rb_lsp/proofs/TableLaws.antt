-- Where the lines of a script begin, a byte further.
use Rattle.std.proofs.Common.{◌≡◌, inl, inr, ℕ, zero, suc, ◌+◌, ◌-◌, ◌<◌, ◌≤◌, true, false, ◌==◌, List, [], ◌∷◌, ◌++◌, length, drop, get_or, cond, refl, sym, ap, subst, ◌∙◌, arith, add-one, drop-cons, length-append}
use Rattle.std.proofs.lemmas.List.{drop_all, get_or_append_left}
use Rattle.std.proofs.Math.Nat.{eq-or-lt_of_le}
use Rattle.std.proofs.lemmas.Bool.{cases_lt}
use Rattle.std.proofs.Math.ListN.{get_or-eq_default}
use Rattle.std.proofs.Math.Seq.{get_or-append_seam}
use Rattle.rb_lsp.specs.declared.document.position.Encoding.{Encoding}
use Rattle.rb_lsp.specs.declared.document.position.Position.{Position}
use Rattle.rb_lsp.specs.Places.{START, position_of}
use Rattle.rb_lsp.specs.Tables.{feed_start, start_of}
use Rattle.rb_lsp.specs.Behind.{HasNoFeed, IsLineBehind}
use Rattle.rb_lsp.proofs.PlainLaws.{start_first}

feed_at : (n i : ℕ) (text : List ℕ) → i < length text
    → feed_start (suc n) (drop i text) ≡ suc (cond (get_or text i 0 == 10) (feed_start n (drop (suc i) text)) (feed_start (suc n) (drop (suc i) text)))
unfolding feed_start
feed_at n i text within = rw (drop-cons text i 0) refl

feed_past : (n i : ℕ) (text : List ℕ) → length text ≤ i → feed_start (suc n) (drop i text) ≡ 0
unfolding feed_start
feed_past n i text past = rw (drop_all i text past) refl

-- Of a text's lines those stand in the list that begin in its first bytes. The others begin behind them.
pub record StartsStand (e : Encoding) (text : List ℕ) (i : ℕ) (starts : List Position) : Type 0 where
  pub some : 1 ≤ length starts
  pub given : (n : ℕ) (p : Position) → n < length starts → get_or starts n p ≡ start_of e n text
  pub left : (n : ℕ) → length starts ≤ n → feed_start n text ≡ i + feed_start (suc (n - length starts)) (drop i text)

pub first_stands : (e : Encoding) (text : List ℕ) (starts : List Position) → starts ≡ START ∷ [] → StartsStand e text 0 starts
unfolding position_of
first_stands e text starts is =
    let one : length starts ≡ 1 = ap length is in record {
      some = omega arith;
      given = λ n p below.
          let first : n ≡ 0 = omega arith in
          rw (first, is, start_first text) refl;
      left = λ n past.
          let further : n ≡ suc (n - length starts) = omega arith in
          ap (λ (k : ℕ). feed_start k text) further ∙ omega arith;
    }

-- a byte that isn't LF
pub others_stand : (e : Encoding) (text : List ℕ) (i : ℕ) (starts : List Position) → i < length text → (get_or text i 0 == 10) ≡ false
    → StartsStand e text i starts → StartsStand e text (i + 1) starts
others_stand e text i starts within none s = record {
  some = s.some;
  given = s.given;
  left = λ n past.
      let before = s.left n past in
      let going : feed_start (suc (n - length starts)) (drop i text) ≡ suc (feed_start (suc (n - length starts)) (drop (suc i) text)) = feed_at (n - length starts) i text within ∙ rw none refl in
      let same : feed_start (suc (n - length starts)) (drop (suc i) text) ≡ feed_start (suc (n - length starts)) (drop (i + 1) text) = ap (λ (k : ℕ). feed_start (suc (n - length starts)) (drop k text)) (sym (add-one i)) in
      omega (arith, before, going, same);
}

-- many of them
stands_on : (e : Encoding) (text : List ℕ) (i k : ℕ) (starts : List Position) → i + k ≤ length text → HasNoFeed i (i + k) text
    → StartsStand e text i starts → StartsStand e text (i + k) starts
stands_on e text i zero starts within none s = let same : i + 0 ≡ i = omega arith in rw same s
stands_on e text i (suc k) starts within none s =
    let on : i + suc k ≡ i + k + 1 = omega arith in
    let before = stands_on e text i k starts (omega arith) (λ j from few. none j from (omega (arith, few))) s in
    rw on (others_stand e text (i + k) starts (omega arith) (none (i + k) (omega arith) (omega arith)) before)

pub stands_to : (e : Encoding) (text : List ℕ) (i end : ℕ) (starts : List Position) → i ≤ end → end ≤ length text → HasNoFeed i end text
    → StartsStand e text i starts → StartsStand e text end starts
stands_to e text i end starts from within none s =
    let to : i + (end - i) ≡ end = omega (arith, from) in
    subst (λ (n : ℕ). StartsStand e text n starts) to (stands_on e text i (end - i) starts (omega (arith, from, within)) (λ j before few. none j before (omega (arith, from, few))) s)

zero_left : (n m : ℕ) → n ≡ m → n - m ≡ 0
zero_left n m same = omega arith

feed_ended : (n i : ℕ) (text : List ℕ) → i < length text → (get_or text i 0 == 10) ≡ true → feed_start (suc (suc n)) (drop i text) ≡ 1 + feed_start (suc n) (drop (i + 1) text)
feed_ended n i text within ends =
    let same : feed_start (suc n) (drop (suc i) text) ≡ feed_start (suc n) (drop (i + 1) text) = ap (λ (k : ℕ). feed_start (suc n) (drop k text)) (sym (add-one i)) in
    feed_at (suc n) i text within ∙ rw ends (omega (arith, same))

feed_line : (i : ℕ) (text : List ℕ) → i < length text → (get_or text i 0 == 10) ≡ true → feed_start 1 (drop i text) ≡ 1
feed_line i text within ends = feed_at 0 i text within ∙ rw ends (omega (arith, start_first (drop (suc i) text)))

-- LF, behind which a line begins
pub start_stands : (e : Encoding) (text : List ℕ) (i : ℕ) (starts more : List Position) (p : Position) → i < length text → (get_or text i 0 == 10) ≡ true
    → p ≡ position_of e (i + 1) text → more ≡ starts ++ p ∷ [] → StartsStand e text i starts → StartsStand e text (i + 1) more
start_stands e text i starts more p within ends here is s =
    let longer : length more ≡ length starts + 1 = ap length is ∙ length-append starts (p ∷ []) in
    record {
      some = omega arith;
      given = λ n q below. elim (eq-or-lt_of_le {n = n} {m = length starts} (omega arith)) [
        | inr old ↦ rw is (get_or_append_left starts (p ∷ []) q n old ∙ s.given n q old)
        | inl last ↦
            let begins : feed_start n text ≡ i + 1 = omega (arith, s.left n (omega arith), ap (λ (k : ℕ). feed_start (suc k) (drop i text)) (zero_left n (length starts) last), feed_line i text within ends) in
            rw (is, last) (get_or-append_seam starts p [] q) ∙ here ∙ ap (λ (k : ℕ). position_of e k text) (sym begins)
      ];
      left = λ n past.
          let before = s.left n (omega arith) in
          let further : n - length starts ≡ suc (n - length more) = omega arith in
          let ended = feed_ended (n - length more) i text within ends in
          omega (arith, before, ap (λ (k : ℕ). feed_start (suc k) (drop i text)) further, ended);
    }

-- ---- a line at once

up_to : (e : Encoding) (text : List ℕ) (i next : ℕ) (starts : List Position) → IsLineBehind i text next → StartsStand e text i starts → StartsStand e text (next - 1) starts
up_to e text i next starts behind s = stands_to e text i (next - 1) starts (omega (arith, behind.further)) (omega (arith, behind.within)) behind.none s

-- a line that ends with LF
pub line_stands : (e : Encoding) (text : List ℕ) (i next : ℕ) (starts more : List Position) (p : Position) → IsLineBehind i text next → (get_or text (next - 1) 0 == 10) ≡ true
    → p ≡ position_of e next text → more ≡ starts ++ p ∷ [] → StartsStand e text i starts → StartsStand e text next more
line_stands e text i next starts more p behind ends here is s =
    let last : next - 1 + 1 ≡ next = omega (arith, behind.further) in
    let within : next - 1 < length text = omega (arith, behind.further, behind.within) in
    subst (λ (n : ℕ). StartsStand e text n more) last
    (start_stands e text (next - 1) starts more p within ends (here ∙ ap (λ (n : ℕ). position_of e n text) (sym last)) is (up_to e text i next starts behind s))

-- one that ends with CR
pub part_stands : (e : Encoding) (text : List ℕ) (i next : ℕ) (starts : List Position) → IsLineBehind i text next → (get_or text (next - 1) 0 == 10) ≡ false
    → StartsStand e text i starts → StartsStand e text next starts
part_stands e text i next starts behind none s =
    let last : next - 1 + 1 ≡ next = omega (arith, behind.further) in
    let within : next - 1 < length text = omega (arith, behind.further, behind.within) in
    subst (λ (n : ℕ). StartsStand e text n starts) last (others_stand e text (next - 1) starts within none (up_to e text i next starts behind s))

-- at the end the table is whole
pub all_stand : (e : Encoding) (text : List ℕ) (starts : List Position) (i : ℕ) (end : Position) → i ≡ length text → end ≡ position_of e i text
    → StartsStand e text i starts → (n : ℕ) → get_or starts n end ≡ start_of e n text
all_stand e text starts i end last is s n = elim (cases_lt n (length starts)) [
  | inl here ↦ s.given n end here
  | inr past ↦
      let whole : feed_start n text ≡ i = omega (arith, s.left n past, feed_past (n - length starts) i text (omega arith)) in
      let last = get_or-eq_default starts end past in
      last ∙ is ∙ ap (λ (k : ℕ). position_of e k text) (sym whole)
]
