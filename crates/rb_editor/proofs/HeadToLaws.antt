-- The line in which a place stands, and the lines above it, one after another.
use Rattle.std.proofs.Common.{◌≡◌, ◌∙◌, ℕ, zero, suc, ◌+◌, ◌-◌, ◌<◌, ◌≤◌, ◌==◌, true, false, List, length, drop, get_or, Some, refl, ap, arith, eq-eqb}
use Rattle.std.specs.Prelude.{slice_get}
use Rattle.std.proofs.lemmas.Bool.{ne_eqb}
use Rattle.std.proofs.lemmas.List.{drop_all}
use Rattle.rb_text.proofs.SentLaws.{drop-get}
use Rattle.rb_script.specs.Lines.{Line}
use Rattle.rb_editor.specs.declared.offers.part.Part.{Part}
use Rattle.rb_editor.specs.Above.{begun_lines, behind_lines, kept, line_above, line_begin, more_begun, next}

pub begin_here : (k : ℕ) (text : List ℕ) → 0 < k → get_or text (k - 1) 0 ≡ 10 → line_begin k text ≡ k
unfolding line_begin
begin_here zero text some is = absurd (omega (arith, some))
begin_here (suc k) text some is =
    let same : k ≡ suc k - 1 = omega arith in
    let feed : (get_or text k 0 == 10) ≡ true = eq-eqb (get_or text k 0) 10 (ap (λ (i : ℕ). get_or text i 0) same ∙ is) in
    rw feed refl

pub begin_less : (k : ℕ) (text : List ℕ) → 0 < k → (get_or text (k - 1) 0 ≡ 10 → ⊥) → line_begin k text ≡ line_begin (k - 1) text
unfolding line_begin
begin_less zero text some other = absurd (omega (arith, some))
begin_less (suc k) text some other =
    let same : suc k - 1 ≡ k = omega arith in
    let less : k ≡ suc k - 1 = omega arith in
    let none : (get_or text k 0 == 10) ≡ false = ne_eqb (get_or text k 0) 10 (λ is. other (ap (λ (i : ℕ). get_or text i 0) same ∙ is)) in
    rw none (ap (λ (i : ℕ). line_begin i text) less)

pub begin_none : (k : ℕ) (text : List ℕ) → k ≡ 0 → line_begin k text ≡ k
unfolding line_begin
begin_none zero text is = refl
begin_none (suc k) text is = absurd (omega (arith, is))

pub one_line_more : (p : Part) (head : List ℕ) (ls : List Line) (i : ℕ) (line : Line) → slice_get ls i ≡ Some line → behind_lines p head (drop i ls) ≡ behind_lines (next p line) (kept (next p line) line head) (drop (i + 1) ls)
unfolding behind_lines
one_line_more p head ls i line is = ap (behind_lines p head) (drop-get ls i line is)

pub all_lines_seen : (p : Part) (head : List ℕ) (ls : List Line) (i : ℕ) → length ls ≤ i → behind_lines p head (drop i ls) ≡ (p, head)
unfolding behind_lines
all_lines_seen p head ls i past = ap (behind_lines p head) (drop_all i ls past)

-- ---- the lines of a block that isn't finished

pub one_begun : (p : Part) (n : ℕ) (ls : List Line) (i : ℕ) (line : Line) → slice_get ls i ≡ Some line → begun_lines p n (drop i ls) ≡ begun_lines (next p line) (more_begun (next p line) n) (drop (i + 1) ls)
unfolding begun_lines
one_begun p n ls i line is = ap (begun_lines p n) (drop-get ls i line is)

pub all_begun : (p : Part) (n : ℕ) (ls : List Line) (i : ℕ) → length ls ≤ i → begun_lines p n (drop i ls) ≡ n
unfolding begun_lines
all_begun p n ls i past = ap (begun_lines p n) (drop_all i ls past)

pub above_more : (most n at : ℕ) (text : List ℕ) → most ≡ suc n → line_above most at text ≡ line_above n (line_begin at text - 1) text
unfolding line_above
above_more zero n at text is = absurd (omega (arith, is))
above_more (suc most) n at text is = let same : most ≡ n = omega (arith, is) in ap (λ (k : ℕ). line_above k (line_begin at text - 1) text) same

pub above_none : (most at : ℕ) (text : List ℕ) → most ≡ 0 → line_above most at text ≡ line_begin at text
unfolding line_above
above_none zero at text is = refl
above_none (suc most) at text is = absurd (omega (arith, is))
