-- A line whose end hasn't come.
use Rattle.std.proofs.Common.{◌≡◌, ◌≢◌, ◌<◌, ◌≤◌, ◌∙◌, ℕ, zero, suc, List, [], ◌∷◌, ◌++◌, length, take, refl, sym, ap, subst, arith, length-append, length-take}
use Rattle.std.proofs.lemmas.List.{take-append-le, take_all}
use Rattle.std.proofs.lemmas.List.Elements.{All-append, All-cons, All-nil}
use Rattle.rb_script.specs.Lines.{put_before, without_returns}
use Rattle.rb_script.specs.declared.limits.TheConstants.{MAX_LINE}
use Rattle.rb_script.proofs.LineLaws.{without_returns_kept, without_returns_dropped}
use Rattle.rb_text.specs.Begun.{HasNoNewline, Holds, IsLong}

-- ---- without the carriage returns at the end

put_before_within : (b n : ℕ) (line : List ℕ) → length line ≤ n → length (put_before b line) ≤ suc n
put_before_within b n [] h = grind (arith)
put_before_within b n (c ∷ line) h = omega arith

below_put_before : (b n : ℕ) (line : List ℕ) → length (put_before b line) ≤ suc n → length line ≤ n
below_put_before b n [] h = omega arith
below_put_before b n (c ∷ line) h = omega arith

pub without_returns_shorter : (xs : List ℕ) → length (without_returns xs) ≤ length xs
unfolding without_returns
without_returns_shorter [] = omega arith
without_returns_shorter (x ∷ xs) = put_before_within x (length xs) (without_returns xs) (without_returns_shorter xs)

none_left : (line : List ℕ) → length line ≤ 0 → [] ≡ line
none_left [] h = refl
none_left (c ∷ line) h = absurd (omega arith)

-- bytes behind those that the line can have are carriage returns of its end
pub without_returns_front : (n : ℕ) (xs : List ℕ) → length (without_returns xs) ≤ n → without_returns (take n xs) ≡ without_returns xs
unfolding without_returns
without_returns_front zero [] h = refl
without_returns_front zero (x ∷ xs) h = none_left (without_returns (x ∷ xs)) h
without_returns_front (suc n) [] h = refl
without_returns_front (suc n) (x ∷ xs) h = ap (put_before x) (without_returns_front n xs (below_put_before x n (without_returns xs) h))

-- ---- one more byte

no_feed_push : (begun : List ℕ) (b : ℕ) → HasNoNewline begun → b ≢ 10 → HasNoNewline (begun ++ b ∷ [])
no_feed_push begun b h not = All-append (λ x. x ≢ 10) begun (b ∷ []) h (All-cons (λ x. x ≢ 10) b [] not (All-nil (λ x. x ≢ 10)))

short_begun : (n : ℕ) (begun : List ℕ) → length (take n begun) < n → length begun < n
short_begun n begun h = let e = length-take n begun in omega (arith, e, h)

pub holds_nothing : Holds [] []
unfolding without_returns
holds_nothing = record { no_newline = All-nil (λ x. x ≢ 10); within = omega arith; front = refl }

pub holds_push : (begun kept : List ℕ) (b : ℕ) → Holds begun kept → b ≢ 10 → length kept < MAX_LINE → Holds (begun ++ b ∷ []) (kept ++ b ∷ [])
holds_push begun kept b h not room =
    let short : length begun < MAX_LINE = short_begun MAX_LINE begun (subst (λ (l : List ℕ). length l < MAX_LINE) h.front room) in
    let longer = length-append begun (b ∷ []) in
    record {
      no_newline = no_feed_push begun b h.no_newline not;
      within = omega (arith, without_returns_shorter (begun ++ b ∷ []), longer, short);
      front = ap (λ (l : List ℕ). l ++ b ∷ []) (h.front ∙ take_all MAX_LINE begun (omega (arith, short))) ∙ sym (take_all MAX_LINE (begun ++ b ∷ []) (omega (arith, longer, short)));
    }

pub holds_return : (begun kept : List ℕ) (b : ℕ) → Holds begun kept → b ≡ 13 → MAX_LINE ≤ length kept → Holds (begun ++ b ∷ []) kept
holds_return begun kept b h return full =
    let all : MAX_LINE ≤ length begun = omega (arith, ap length h.front, length-take MAX_LINE begun, full) in
    record {
      no_newline = no_feed_push begun b h.no_newline (λ e. let bad : 13 ≡ 10 = sym return ∙ e in omega arith);
      within = subst (λ (l : List ℕ). length l ≤ MAX_LINE) (sym (without_returns_dropped begun b return)) h.within;
      front = h.front ∙ sym (take-append-le MAX_LINE begun (b ∷ []) all);
    }

pub long_push : (begun kept : List ℕ) (b : ℕ) → Holds begun kept → b ≢ 10 → b ≢ 13 → MAX_LINE ≤ length kept → IsLong (begun ++ b ∷ [])
long_push begun kept b h not no_return full =
    let all : MAX_LINE ≤ length begun = omega (arith, ap length h.front, length-take MAX_LINE begun, full) in
    record {
      no_newline = no_feed_push begun b h.no_newline not;
      above = subst (λ (l : List ℕ). MAX_LINE < length l) (sym (without_returns_kept begun b no_return)) (omega (arith, length-append begun (b ∷ []), all));
    }

-- ---- the line

pub line_of_kept : (begun kept : List ℕ) → Holds begun kept → without_returns kept ≡ without_returns begun
line_of_kept begun kept h = ap without_returns h.front ∙ without_returns_front MAX_LINE begun h.within

pub begun_of_nothing : (begun kept : List ℕ) → Holds begun kept → kept ≡ [] → begun ≡ []
begun_of_nothing [] kept h e = refl
begun_of_nothing (b ∷ begun) kept h e = absurd (let l = ap length (sym e ∙ h.front) in omega (arith, l, length-take MAX_LINE (b ∷ begun)))
