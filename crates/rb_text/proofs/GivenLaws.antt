-- What comes next of known bytes.
use Rattle.std.proofs.Common.{◌≡◌, ◌≢◌, ◌<◌, ◌≤◌, ◌∙◌, ℕ, List, [], ◌∷◌, ◌++◌, Option, Some, None, Bool, true, false, length, map, refl, sym, ap, subst, arith, take, append_assoc, append-nil}
use Rattle.std.specs.Prelude.{IfSome, if◌then◌else◌}
use Rattle.std.specs.Io.KnownBytes.{Consumes, IsAtEnd, Keeps, prepend_known}
use Rattle.std.proofs.KnownBytes.{Consumes-kept, Consumes-trans, prepend_known-nil}
use Rattle.rb_script.specs.Lines.{without_returns, lines}
use Rattle.rb_script.specs.declared.limits.TheConstants.{MAX_LINE}
use Rattle.rb_text.specs.Begun.{HasNoNewline, Holds, IsLong, TurnsLong}
use Rattle.rb_text.specs.Given.{LosesLine, LosesLong, IsFirstLong}
use Rattle.rb_text.proofs.BegunLaws.{begun_of_nothing, line_of_kept}
use Rattle.rb_text.proofs.CutLaws.{lines_line, lines_last, cut_begins, without_returns_longer}

-- unread bytes are lost from the front
pub prepended_taken : (known : Option (List ℕ)) (old part new : List ℕ) → old ≡ part ++ new → Consumes (prepend_known old known) (prepend_known new known) part
prepended_taken None old part new e = tt
prepended_taken (Some ys) old part new e = ap (λ (l : List ℕ). l ++ ys) e ∙ append_assoc part new ys

pub loses_line : (a b : Option (List ℕ)) (begun : List ℕ) → HasNoNewline begun → Consumes a b (begun ++ 10 ∷ []) → LosesLine a b (without_returns begun)
loses_line None b begun h c = tt
loses_line (Some all) None begun h c = absurd c
loses_line (Some all) (Some left) begun h c = ap lines (c ∙ append_assoc begun (10 ∷ []) left) ∙ lines_line begun left h

pub loses_last : (a : Option (List ℕ)) (begun : List ℕ) → HasNoNewline begun → begun ≢ [] → Consumes a (Some []) begun → LosesLine a (Some []) (without_returns begun)
loses_last None begun h some c = tt
loses_last (Some all) begun h some c = ap lines (c ∙ append-nil begun) ∙ lines_last begun h some

pub ends : (a : Option (List ℕ)) (begun : List ℕ) → begun ≡ [] → Consumes a (Some []) begun → IsAtEnd a
ends None begun e c = tt
ends (Some all) begun e c = c ∙ append-nil begun ∙ e

long_is_some : (begun : List ℕ) → IsLong begun → begun ≢ []
unfolding without_returns
long_is_some begun h e = let bad : MAX_LINE < length (without_returns []) = subst (λ (l : List ℕ). MAX_LINE < length (without_returns l)) e h.above in omega (arith, bad)

first_long_of : (all begun more : List ℕ) → IsLong begun → all ≡ begun ++ more → IsFirstLong (lines all)
unfolding lines
first_long_of all begun more h e =
    let (rest, ls, first) = cut_begins begun more h.no_newline (long_is_some begun h) in
    let first_line : lines all ≡ without_returns (begun ++ rest) ∷ map without_returns ls = ap lines e ∙ ap (map without_returns) first in
    let above : MAX_LINE < length (without_returns (begun ++ rest)) = omega (arith, h.above, without_returns_longer begun rest) in
    subst IsFirstLong (sym first_line) above

pub first_long : (a b : Option (List ℕ)) (begun : List ℕ) → IsLong begun → Consumes a b begun → IfSome a (λ all. IsFirstLong (lines all))
first_long None b begun h c = tt
first_long (Some all) None begun h c = absurd c
first_long (Some all) (Some left) begun h c = first_long_of all begun left h c

-- ---- what the reader's steps lose; `left` is what is left, of an end that was met or not

abbrev left : Bool → List ℕ → Option (List ℕ) → Option (List ℕ)
left ended unread known = if ended then Some [] else prepend_known unread known

lost_part : (a known : Option (List ℕ)) (ended : Bool) (unread begun part new : List ℕ) → ended ≡ false → unread ≡ part ++ new
    → Consumes a (left ended unread known) begun → Consumes a (left ended new known) (begun ++ part)
lost_part a known true unread begun part new going split c = cc
lost_part a known false unread begun part new going split c =
    Consumes-trans a (prepend_known unread known) (prepend_known new known) begun part c (prepended_taken known unread part new split)

-- all that was unread, and then one more call
pub lost_all : (a known after : Option (List ℕ)) (ended : Bool) (unread begun new : List ℕ) → ended ≡ false → new ≡ []
    → Consumes a (left ended unread known) begun → Keeps (left ended new known) after → Consumes a after (begun ++ unread)
lost_all a known after ended unread begun new going none c kept =
    let split : unread ≡ unread ++ new = sym (append-nil unread) ∙ ap (λ (l : List ℕ). unread ++ l) (sym none) in
    Consumes-kept a (left ended new known) after (begun ++ unread) (lost_part a known ended unread begun unread new going split c) kept

-- where nothing is unread and the end wasn't met, what is left is the source's
left_spent : (known : Option (List ℕ)) (ended : Bool) (unread : List ℕ) → ended ≡ false → unread ≡ [] → left ended unread known ≡ known
left_spent known true unread going none = cc
left_spent known false unread going none = ap (λ (l : List ℕ). prepend_known l known) none ∙ prepend_known-nil known

pub lost_spent : (a known : Option (List ℕ)) (ended : Bool) (unread begun : List ℕ) → unread ≡ [] → ended ≡ false → Consumes a (left ended unread known) begun → Consumes a known begun
lost_spent a known ended unread begun none going c = subst (λ (o : Option (List ℕ)). Consumes a o begun) (left_spent known ended unread going none) c

-- a line and its end
pub lost_line : (a known : Option (List ℕ)) (ended : Bool) (unread begun part new : List ℕ) → ended ≡ false → unread ≡ part ++ 10 ∷ new
    → Consumes a (left ended unread known) begun → Consumes a (left ended new known) ((begun ++ part) ++ 10 ∷ [])
lost_line a known ended unread begun part new going split c =
    subst (Consumes a (left ended new known)) (sym (append_assoc begun part (10 ∷ [])))
    (lost_part a known ended unread begun (part ++ 10 ∷ []) new going (split ∙ sym (append_assoc part (10 ∷ []) new)) c)

pub gives_line : (a b : Option (List ℕ)) (begun kept : List ℕ) → Holds begun kept → Consumes a b (begun ++ 10 ∷ [])
    → LosesLine a b (without_returns kept) × (length (without_returns kept) ≤ MAX_LINE)
gives_line a b begun kept h c =
    let same = line_of_kept begun kept h in (
      subst (LosesLine a b) (sym same) (loses_line a b begun h.no_newline c),
      subst (λ (l : List ℕ). length l ≤ MAX_LINE) (sym same) h.within,
    )

-- what is begun at the end is the last line
pub gives_last : (a known : Option (List ℕ)) (ended : Bool) (unread begun kept : List ℕ) → ended ≡ true → Holds begun kept → kept ≢ []
    → Consumes a (left ended unread known) begun → LosesLine a (left ended unread known) (without_returns kept) × (length (without_returns kept) ≤ MAX_LINE)
gives_last a known false unread begun kept end h some c = cc
gives_last a known true unread begun kept end h some c =
    let same = line_of_kept begun kept h in
    let is_some : begun ≢ [] = λ e. some (h.front ∙ ap (take MAX_LINE) e) in (
      subst (LosesLine a (Some [])) (sym same) (loses_last a begun h.no_newline is_some c),
      subst (λ (l : List ℕ). length l ≤ MAX_LINE) (sym same) h.within,
    )

-- where nothing is begun at the end, nothing was left
pub gives_end : (a known : Option (List ℕ)) (ended : Bool) (unread begun kept : List ℕ) → ended ≡ true → Holds begun kept → kept ≡ []
    → Consumes a (left ended unread known) begun → IsAtEnd a × (left ended unread known ≡ Some [])
gives_end a known false unread begun kept end h none c = cc
gives_end a known true unread begun kept end h none c = (ends a begun (begun_of_nothing begun kept h none) c, refl)

pub gives_long : (a known : Option (List ℕ)) (ended : Bool) (unread begun part new : List ℕ) → ended ≡ false → unread ≡ part ++ new → TurnsLong (begun ++ part)
    → Consumes a (left ended unread known) begun → IfSome a (λ all. IsFirstLong (lines all)) × LosesLong a (left ended new known)
gives_long a known ended unread begun part new going split turns c =
    let lost = lost_part a known ended unread begun part new going split c in
    (first_long a (left ended new known) (begun ++ part) turns.long lost, (begun ++ part, turns, lost))
