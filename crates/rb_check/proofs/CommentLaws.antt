-- The comment above a directive: its lines, one after another.
use Rattle.std.proofs.Common.{◌≡◌, ◌∙◌, ℕ, zero, suc, ◌+◌, ◌<◌, ◌≤◌, Bool, true, false, List, [], ◌∷◌, ◌++◌, length, drop, take, Some, refl, ap, sym, arith}
use Rattle.std.specs.Prelude.{slice_get, if◌then◌else◌}
use Rattle.std.specs.List.{flat_map}
use Rattle.std.proofs.lemmas.List.{drop_all, length-take-le}
use Rattle.std.proofs.lemmas.Option.{get_or_from_slice_get}
use Rattle.rb_script.specs.Lines.{Line}
use Rattle.rb_script.specs.Marks.{is_comment}
use Rattle.rb_text.proofs.SentLaws.{drop-get}
use Rattle.rb_check.specs.Reviews.{above_comment, with_end}

-- one line further up
pub comment-next : (ls : List Line) (n : ℕ) (line : Line) → slice_get ls n ≡ Some line → is_comment line ≡ true → above_comment ls n ≡ above_comment ls (suc n)
comment-next ls n line got is =
    sym (ap (λ (l : Line). if is_comment l then above_comment ls n else suc n) (get_or_from_slice_get ls n line [] got)
    ∙ ap (λ (t : Bool). if t then above_comment ls n else suc n) is)

-- and there it ends
pub comment-ends : (ls : List Line) (n : ℕ) (line : Line) → slice_get ls n ≡ Some line → is_comment line ≡ false → suc n ≡ above_comment ls (suc n)
comment-ends ls n line got is =
    sym (ap (λ (l : Line). if is_comment l then above_comment ls n else suc n) (get_or_from_slice_get ls n line [] got)
    ∙ ap (λ (t : Bool). if t then above_comment ls n else suc n) is)

-- a line of the first n
got_taken : (n : ℕ) (ls : List Line) (i : ℕ) → i < n → slice_get (take n ls) i ≡ slice_get ls i
got_taken zero ls i less = absurd (omega (arith, less))
got_taken (suc n) [] i less = refl
got_taken (suc n) (l ∷ ls) zero less = refl
got_taken (suc n) (l ∷ ls) (suc i) less = got_taken n ls i (omega (arith, less))

-- one line more of them
pub ends-step : (ls : List Line) (i n : ℕ) (line : Line) → i < n → slice_get ls i ≡ Some line → flat_map with_end (drop i (take n ls)) ≡ with_end line ++ flat_map with_end (drop (i + 1) (take n ls))
ends-step ls i n line less got = ap (λ (ks : List Line). flat_map with_end ks) (drop-get (take n ls) i line (got_taken n ls i less ∙ got))

pub ends-done : (ls : List Line) (i n : ℕ) → n ≤ i → n ≤ length ls → flat_map with_end (drop i (take n ls)) ≡ []
ends-done ls i n past within = ap (λ (ks : List Line). flat_map with_end ks) (drop_all i (take n ls) (omega (arith, past, length-take-le n ls within)))
