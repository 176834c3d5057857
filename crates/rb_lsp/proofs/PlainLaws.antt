-- Texts without CR: a line of a script is one of an editor there.
use Rattle.std.proofs.Common.{◌≡◌, ◌∙◌, ℕ, zero, suc, ◌+◌, ◌-◌, ◌<◌, ◌≤◌, true, false, ◌==◌, List, [], ◌∷◌, length, drop, get_or, refl, sym, ap, inl, inr, arith, drop-cons}
use Rattle.std.specs.Prelude.{nat_lt, if◌then◌else◌}
use Rattle.std.proofs.lemmas.Bool.{cases_Bool, false_from_ne_true, ltb-true, ltb-false, le-ltb, ne_eqb}
use Rattle.std.proofs.lemmas.List.{drop_all}
use Rattle.memchr.specs.Find.{NoneAfter, Nowhere, Passes, is_byte}
use Rattle.rb_lsp.specs.declared.document.position.Encoding.{Encoding}
use Rattle.rb_lsp.specs.declared.document.position.Position.{Position}
use Rattle.rb_lsp.specs.Places.{below, beside, position_of, units}
use Rattle.rb_lsp.specs.Tables.{HasNoReturn, feed_count, feed_start, start_of}
use Rattle.rb_lsp.specs.Behind.{HasNoFeed}

abbrev pub first : ℕ → Position
first line = record { line = line; character = 0 }

-- ---- a byte more

feeds_more : (b : ℕ) (bytes : List ℕ) → (b == 10) ≡ true → feed_count (b ∷ bytes) ≡ suc (feed_count bytes)
unfolding feed_count
feeds_more b bytes t = rw t refl

feeds_same : (b : ℕ) (bytes : List ℕ) → (b == 10) ≡ false → feed_count (b ∷ bytes) ≡ feed_count bytes
unfolding feed_count
feeds_same b bytes f = rw f refl

start_more : (n b : ℕ) (bytes : List ℕ) → (b == 10) ≡ true → feed_start (suc n) (b ∷ bytes) ≡ suc (feed_start n bytes)
unfolding feed_start
start_more n b bytes t = rw t refl

start_same : (n b : ℕ) (bytes : List ℕ) → (b == 10) ≡ false → feed_start (suc n) (b ∷ bytes) ≡ suc (feed_start (suc n) bytes)
unfolding feed_start
start_same n b bytes f = rw f refl

pub start_first : (bytes : List ℕ) → feed_start 0 bytes ≡ 0
unfolding feed_start
start_first bytes = refl

position_below : (e : Encoding) (k b : ℕ) (bytes : List ℕ) → (b == 10) ≡ true → position_of e (suc k) (b ∷ bytes) ≡ below (position_of e k bytes)
unfolding position_of
position_below e k b bytes t = rw t refl

position_beside : (e : Encoding) (k b : ℕ) (bytes : List ℕ) → (b == 10) ≡ false → (b == 13) ≡ false → position_of e (suc k) (b ∷ bytes) ≡ beside (units e b) (position_of e k bytes)
unfolding position_of
position_beside e k b bytes f none = rw (f, none) refl

rest_plain : (b : ℕ) (bytes : List ℕ) → HasNoReturn (b ∷ bytes) → HasNoReturn bytes
rest_plain b bytes none = λ k within. none (suc k) (omega (arith, within))

byte_plain : (b : ℕ) (bytes : List ℕ) → HasNoReturn (b ∷ bytes) → (b == 13) ≡ false
byte_plain b bytes none = ne_eqb b 13 (none 0 (omega arith))

-- ---- lines that the text has

pub plain_start : (e : Encoding) (n : ℕ) (text : List ℕ) → HasNoReturn text → n ≤ feed_count text → start_of e n text ≡ first n
unfolding feed_start feed_count position_of
plain_start e zero text none few = refl
plain_start e (suc n) [] none few = absurd (omega (arith, few))
plain_start e (suc n) (b ∷ bytes) none few =
    elim (cases_Bool (b == 10)) [
      | inl t ↦
          ap (λ (k : ℕ). position_of e k (b ∷ bytes)) (start_more n b bytes t)
          ∙ position_below e (feed_start n bytes) b bytes t
          ∙ ap below (plain_start e n bytes (rest_plain b bytes none) (omega (arith, few, feeds_more b bytes t)))
      | inr f ↦
          ap (λ (k : ℕ). position_of e k (b ∷ bytes)) (start_same n b bytes f)
          ∙ position_beside e (feed_start (suc n) bytes) b bytes f (byte_plain b bytes none)
          ∙ ap (beside (units e b)) (plain_start e (suc n) bytes (rest_plain b bytes none) (omega (arith, few, feeds_same b bytes f)))
    ]

-- ---- lines behind its last

past_none : (n : ℕ) → feed_start (suc n) [] ≡ 0
unfolding feed_start
past_none n = refl

pub past_start : (n : ℕ) (text : List ℕ) → feed_count text < n → feed_start n text ≡ length text
past_start zero text few = absurd (omega (arith, few))
past_start (suc n) [] few = past_none n
past_start (suc n) (b ∷ bytes) few =
    elim (cases_Bool (b == 10)) [
      | inl t ↦ let later = past_start n bytes (omega (arith, few, feeds_more b bytes t)) in omega (arith, start_more n b bytes t, later)
      | inr f ↦ let later = past_start (suc n) bytes (omega (arith, few, feeds_same b bytes f)) in omega (arith, start_same n b bytes f, later)
    ]

-- ---- the last line

no_feeds : (text : List ℕ) → ((j : ℕ) → j < length text → (get_or text j 0 == 10) ≡ false) → feed_count text ≡ 0
unfolding feed_count
no_feeds [] none = refl
no_feeds (b ∷ bytes) none = feeds_same b bytes (none 0 (omega arith)) ∙ no_feeds bytes (λ j within. none (suc j) (omega (arith, within)))

-- The last line of a text begins here.
pub record BeginsLast (k : ℕ) (text : List ℕ) : Type 0 where
  pub start : feed_start (feed_count text) text ≡ k
  pub few : feed_count text ≤ k

pub one_line : (text : List ℕ) → HasNoFeed 0 (length text) text → BeginsLast 0 text
one_line text none =
    let no = no_feeds text (λ j within. none j (omega arith) within) in
    record { start = ap (λ (n : ℕ). feed_start n text) no ∙ start_first text; few = omega (arith, no) }

-- at least one stands before it
record BeginsBehind (k : ℕ) (text : List ℕ) : Type 0 where
  last : BeginsLast k text
  some : 1 ≤ feed_count text

behind_feed : (text : List ℕ) (j : ℕ) → j < length text → (get_or text j 0 == 10) ≡ true → HasNoFeed (suc j) (length text) text → BeginsBehind (suc j) text
behind_feed [] j within feed none = absurd (omega (arith, within))
behind_feed (b ∷ bytes) zero within feed none =
    let no = no_feeds bytes (λ i few. none (suc i) (omega arith) (omega (arith, few))) in
    let one : feed_count (b ∷ bytes) ≡ 1 = omega (arith, feeds_more b bytes feed, no) in
    record {
      last = record {
        start = ap (λ (n : ℕ). feed_start n (b ∷ bytes)) one ∙ start_more 0 b bytes feed ∙ ap suc (start_first bytes);
        few = omega (arith, one);
      };
      some = omega (arith, one);
    }
behind_feed (b ∷ bytes) (suc j) within feed none =
    let later = behind_feed bytes j (omega (arith, within)) feed (λ i past few. none (suc i) (omega (arith, past)) (omega (arith, few))) in
    let c = feed_count bytes in
    elim (cases_Bool (b == 10)) [
      | inl t ↦
          let one = feeds_more b bytes t in
          record {
            last = record { start = ap (λ (n : ℕ). feed_start n (b ∷ bytes)) one ∙ start_more c b bytes t ∙ ap suc later.last.start; few = omega (arith, one, later.last.few) };
            some = omega (arith, one);
          }
      | inr f ↦
          let same = feeds_same b bytes f in
          let whole : c ≡ suc (c - 1) = omega (arith, later.some) in
          record {
            last = record {
              start = ap (λ (n : ℕ). feed_start n (b ∷ bytes)) (same ∙ whole) ∙ start_same (c - 1) b bytes f ∙ ap suc (ap (λ (n : ℕ). feed_start n bytes) (sym whole) ∙ later.last.start);
              few = omega (arith, same, later.last.few);
            };
            some = omega (arith, same, later.some);
          }
    ]

pub last_behind : (text : List ℕ) (j : ℕ) → j < length text → (get_or text j 0 == 10) ≡ true → HasNoFeed (j + 1) (length text) text → BeginsLast (j + 1) text
last_behind text j within feed none =
    let on : suc j ≡ j + 1 = omega arith in
    rw (sym on) (behind_feed text j within feed (λ i past few. none i (omega (arith, past)) few)).last

-- by a search from the end

pub from_last : (text : List ℕ) (j : ℕ) → NoneAfter (Passes (is_byte 10) text) 0 (length text) j → Passes (is_byte 10) text j → BeginsLast (j + 1) text
from_last text j none feed = last_behind text j none.high feed (λ i past few. false_from_ne_true (get_or text i 0 == 10) (none.after i past few))

pub from_none : (text : List ℕ) → Nowhere (Passes (is_byte 10) text) 0 (length text) → BeginsLast 0 text
from_none text none = one_line text (λ i past few. false_from_ne_true (get_or text i 0 == 10) (none i past few))

-- ---- counting

pub counted_one : (i : ℕ) (text : List ℕ) → i < length text → feed_count (drop i text) ≡ (if get_or text i 0 == 10 then 1 else 0) + feed_count (drop (i + 1) text)
counted_one i text within =
    let on : suc i ≡ i + 1 = omega arith in
    let b = get_or text i 0 in
    let later : feed_count (drop (suc i) text) ≡ feed_count (drop (i + 1) text) = ap (λ (k : ℕ). feed_count (drop k text)) on in
    let here = ap feed_count (drop-cons text i 0 within) in
    elim (cases_Bool (b == 10)) [
      | inl t ↦ rw t (omega (arith, here, feeds_more b (drop (suc i) text) t, later))
      | inr f ↦ rw f (omega (arith, here, feeds_same b (drop (suc i) text) f, later))
    ]

pub counted_all : (i : ℕ) (text : List ℕ) → length text ≤ i → feed_count (drop i text) ≡ 0
unfolding feed_count
counted_all i text past = rw (drop_all i text past) refl

-- ---- the table

-- of a text without CR
pub given_plain : (e : Encoding) (text : List ℕ) (feeds : ℕ) (starts : List Position) (end : Position) → HasNoReturn text → feeds ≡ feed_count text → starts ≡ [] → end ≡ position_of e (length text) text
    → (n : ℕ) → (if nat_lt n (feeds + 1) then first n else get_or starts n end) ≡ start_of e n text
given_plain e text feeds starts end none count empty last n =
    elim (cases_Bool (nat_lt n (feeds + 1))) [
      | inl t ↦
          let few : n < feeds + 1 = ltb-true n (feeds + 1) t in
          rw t (sym (plain_start e n text none (omega (arith, few, count))))
      | inr f ↦
          let past : feeds + 1 ≤ n = ltb-false n (feeds + 1) f in
          let whole = past_start n text (omega (arith, past, count)) in
          rw (f, empty) (last ∙ ap (λ (k : ℕ). position_of e k text) (sym whole))
    ]

-- of any
pub given_all : (starts : List Position) (end at : Position) (n : ℕ) → get_or starts n end ≡ at → (if nat_lt n 0 then first n else get_or starts n end) ≡ at
given_all starts end at n is = rw (le-ltb n 0 (omega arith)) is
