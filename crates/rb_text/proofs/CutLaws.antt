-- The first line of bytes that begin with a line, and the lines of bytes that begin with whole lines.
use Rattle.std.proofs.Common.{◌≡◌, ◌≢◌, ◌≤◌, ◌∙◌, ◌==◌, ℕ, true, false, List, [], ◌∷◌, ◌++◌, inl, inr, length, map, refl, sym, ap, subst, append_assoc, append-nil, arith}
use Rattle.std.specs.Prelude.{if◌then◌else◌}
use Rattle.std.proofs.lemmas.Bool.{ne_eqb}
use Rattle.std.proofs.lemmas.List.{append_cancel_right, map-append}
use Rattle.std.proofs.lemmas.List.Elements.{All-head, All-tail}
use Rattle.rb_script.specs.Lines.{Line, put_before, without_returns, in_first, cut, lines}
use Rattle.rb_text.specs.Begun.{HasNoNewline}
use Rattle.rb_text.specs.Taken.{AreWhole}

feed_free_head : (b : ℕ) (begun : List ℕ) → HasNoNewline (b ∷ begun) → b ≢ 10
feed_free_head b begun h = All-head (λ x. x ≢ 10) b begun h

feed_free_tail : (b : ℕ) (begun : List ℕ) → HasNoNewline (b ∷ begun) → HasNoNewline begun
feed_free_tail b begun h = All-tail (λ x. x ≢ 10) b begun h

cut_next : (b : ℕ) (bytes : List ℕ) → b ≢ 10 → cut (b ∷ bytes) ≡ in_first b (cut bytes)
unfolding cut
cut_next b bytes h = rw (ne_eqb b 10 h) refl

-- up to a line feed
pub cut_line : (begun rest : List ℕ) → HasNoNewline begun → cut (begun ++ 10 ∷ rest) ≡ begun ∷ cut rest
unfolding cut
cut_line [] rest h = refl
cut_line (b ∷ begun) rest h =
    cut_next b (begun ++ 10 ∷ rest) (feed_free_head b begun h) ∙ ap (in_first b) (cut_line begun rest (feed_free_tail b begun h))

-- the last, with no line feed
pub cut_last : (begun : List ℕ) → HasNoNewline begun → begun ≢ [] → cut begun ≡ begun ∷ []
unfolding cut
cut_last [] h some = absurd (some refl)
cut_last (b ∷ []) h some = cut_next b [] (feed_free_head b [] h)
cut_last (b ∷ (c ∷ begun)) h some =
    cut_next b (c ∷ begun) (feed_free_head b (c ∷ begun) h)
    ∙ ap (in_first b) (cut_last (c ∷ begun) (feed_free_tail b (c ∷ begun) h) (λ e. let l : length (c ∷ begun) ≡ 0 = ap length e in omega (arith, l)))

pub lines_line : (begun rest : List ℕ) → HasNoNewline begun → lines (begun ++ 10 ∷ rest) ≡ without_returns begun ∷ lines rest
unfolding lines
lines_line begun rest h = ap (map without_returns) (cut_line begun rest h)

pub lines_last : (begun : List ℕ) → HasNoNewline begun → begun ≢ [] → lines begun ≡ without_returns begun ∷ lines []
unfolding lines cut
lines_last begun h some = ap (map without_returns) (cut_last begun h some)

-- ---- whole lines, and what follows them

pub in_first_more : (b : ℕ) (ls more : List Line) → ls ≢ [] → in_first b (ls ++ more) ≡ in_first b ls ++ more
in_first_more b [] more some = absurd (some refl)
in_first_more b (line ∷ ls) more some = refl

pub in_first_some : (b : ℕ) (ls : List Line) → in_first b ls ≢ []
in_first_some b [] e = let l : length (in_first b []) ≡ 0 = ap length e in omega (arith, l)
in_first_some b (line ∷ ls) e = let l : length (in_first b (line ∷ ls)) ≡ 0 = ap length e in omega (arith, l)

cut_some : (front : List ℕ) → cut (front ++ 10 ∷ []) ≢ []
unfolding cut
cut_some [] e = let l : 1 ≡ 0 = ap length e in omega (arith, l)
cut_some (b ∷ front) e =
    elim (b == 10) as (λ t. (if t then [] ∷ cut (front ++ 10 ∷ []) else in_first b (cut (front ++ 10 ∷ []))) ≡ [] → ⊥) [
      | true ↦ λ h. let l : length ([] ∷ cut (front ++ 10 ∷ [])) ≡ 0 = ap length h in omega (arith, l)
      | false ↦ λ h. in_first_some b (cut (front ++ 10 ∷ [])) h
    ] e

cut_feed : (front more : List ℕ) → cut (front ++ 10 ∷ more) ≡ cut (front ++ 10 ∷ []) ++ cut more
unfolding cut
cut_feed [] more = refl
cut_feed (b ∷ front) more =
    let rest = cut_feed front more in
    elim (b == 10) as (λ t. (if t then [] ∷ cut (front ++ 10 ∷ more) else in_first b (cut (front ++ 10 ∷ more)))
    ≡ (if t then [] ∷ cut (front ++ 10 ∷ []) else in_first b (cut (front ++ 10 ∷ []))) ++ cut more) [
      | true ↦ ap (λ (ls : List Line). [] ∷ ls) rest
      | false ↦ ap (in_first b) rest ∙ in_first_more b (cut (front ++ 10 ∷ [])) (cut more) (cut_some front)
    ]

lines_feed : (front more : List ℕ) → lines (front ++ 10 ∷ more) ≡ lines (front ++ 10 ∷ []) ++ lines more
unfolding lines
lines_feed front more = ap (map without_returns) (cut_feed front more) ∙ map-append without_returns (cut (front ++ 10 ∷ [])) (cut more)

pub lines_none : lines [] ≡ []
unfolding lines cut
lines_none = refl

-- whole lines are the first of the lines of what begins with them
pub lines_whole : (whole more : List ℕ) → AreWhole whole → lines (whole ++ more) ≡ lines whole ++ lines more
lines_whole whole more (inl none) =
    ap (λ (l : List ℕ). lines (l ++ more)) none ∙ ap (λ (ls : List Line). ls ++ lines more) (sym (ap lines none ∙ lines_none))
lines_whole whole more (inr (front, ends)) =
    ap (λ (l : List ℕ). lines (l ++ more)) ends ∙ ap lines (append_assoc front (10 ∷ []) more) ∙ lines_feed front more
    ∙ ap (λ (l : List ℕ). lines l ++ lines more) (sym ends)

-- so they are all of those but the lines of what follows
pub lines_of_whole : (all whole more : List ℕ) (ls : List Line) → AreWhole whole → all ≡ whole ++ more → lines all ≡ ls ++ lines more → lines whole ≡ ls
lines_of_whole all whole more ls w e f =
    append_cancel_right (lines whole) ls (lines more) (sym (lines_whole whole more w) ∙ ap lines (sym e) ∙ f)

pub whole_both : (front back : List ℕ) → AreWhole front → AreWhole back → AreWhole (front ++ back)
whole_both front back (inl none) w = subst AreWhole (ap (λ (l : List ℕ). l ++ back) (sym none)) w
whole_both front back (inr (part, e)) (inl none) = inr (part, ap (λ (l : List ℕ). front ++ l) none ∙ append-nil front ∙ e)
whole_both front back (inr first) (inr (part, e)) = inr (front ++ part, ap (λ (l : List ℕ). front ++ l) e ∙ sym (append_assoc front part (10 ∷ [])))

-- ---- a line that goes on

in_first_begins : (b : ℕ) (ls : List Line) → (rest : List ℕ) × (next : List Line) × (in_first b ls ≡ (b ∷ rest) ∷ next)
in_first_begins b [] = ([], [], refl)
in_first_begins b (line ∷ ls) = (line, ls, refl)

-- bytes with no line feed begin the first line
pub cut_begins : (begun more : List ℕ) → HasNoNewline begun → begun ≢ [] → (rest : List ℕ) × (ls : List Line) × (cut (begun ++ more) ≡ (begun ++ rest) ∷ ls)
cut_begins [] more h some = absurd (some refl)
cut_begins (b ∷ []) more h some =
    let (rest, ls, e) = in_first_begins b (cut more) in
    (rest, ls, cut_next b more (feed_free_head b [] h) ∙ e)
cut_begins (b ∷ (c ∷ begun)) more h some =
    let not_empty : (c ∷ begun) ≢ [] = λ e. let l : length (c ∷ begun) ≡ 0 = ap length e in omega (arith, l) in
    let (rest, ls, e) = cut_begins (c ∷ begun) more (feed_free_tail b (c ∷ begun) h) not_empty in
    (rest, ls, cut_next b (c ∷ begun ++ more) (feed_free_head b (c ∷ begun) h) ∙ ap (in_first b) e)

put_before_longer : (b : ℕ) (xs ys : List ℕ) → length xs ≤ length ys → length (put_before b xs) ≤ length (put_before b ys)
put_before_longer b [] [] h = omega arith
put_before_longer b [] (y ∷ ys) h = grind (arith)
put_before_longer b (x ∷ xs) [] h = absurd (omega arith)
put_before_longer b (x ∷ xs) (y ∷ ys) h = omega arith

-- a line that goes on is no shorter
pub without_returns_longer : (begun rest : List ℕ) → length (without_returns begun) ≤ length (without_returns (begun ++ rest))
unfolding without_returns
without_returns_longer [] rest = omega arith
without_returns_longer (b ∷ begun) rest =
    put_before_longer b (without_returns begun) (without_returns (begun ++ rest)) (without_returns_longer begun rest)
