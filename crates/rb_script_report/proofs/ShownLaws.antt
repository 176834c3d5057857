-- What is shown of a script's directives.
use Rattle.std.proofs.Common.{◌≡◌, ◌∙◌, ℕ, suc, ◌+◌, ◌-◌, ◌≤◌, Bool, true, false, List, [], ◌∷◌, length, drop, Some, ap, ap₂, sym, arith}
use Rattle.std.specs.Prelude.{◌&&◌, ◌||◌, slice_get, slice_index}
use Rattle.std.specs.List.{list_any}
use Rattle.rb_script.specs.Lines.{Line}
use Rattle.std.proofs.lemmas.Option.{get_or_from_slice_get}
use Rattle.rb_script.specs.Marks.{is_lead}
use Rattle.rb_script.specs.Script.{PlainScript}
use Rattle.rb_replay.specs.Points.{IsRising}
use Rattle.rb_replay.specs.Run.{outputs}
use Rattle.rb_replay.specs.Report.{mismatches}
use Rattle.rb_replay.proofs.RunLaws.{length-outputs}
use Rattle.rb_replay.proofs.DifferingLaws.{AreAtMost}
use Rattle.rb_report.specs.Briefs.{brief_text}
use Rattle.rb_text.proofs.SentLaws.{drop-get}
use Rattle.rb_script_report.specs.Checked.{brief_at, of_first, head_line, IsFirst}
use Rattle.rb_script_report.specs.Errors.{is_mark, marked, error_count}

-- one output more
pub count-step : (ls : List Line) (heads : List ℕ) (os : List (List Line)) (i line : ℕ) (o : List Line) → slice_get heads i ≡ Some line → slice_get os i ≡ Some o
    → error_count ls (drop i heads) (drop i os) ≡ error_count ls (line ∷ drop (i + 1) heads) (o ∷ drop (i + 1) os)
count-step ls heads os i line o head output =
    ap (λ (ns : List ℕ). error_count ls ns (drop i os)) (drop-get heads i line head)
    ∙ ap (λ (outs : List (List Line)). error_count ls (line ∷ drop (i + 1) heads) outs) (drop-get os i o output)

-- whether the test holds of any, one element more
pub any-step : {A : Type 0} (test : A → Bool) (xs : List A) (i : ℕ) (x : A) (t : Bool) → slice_get xs i ≡ Some x → test x ≡ t → list_any test (drop i xs) ≡ (t || list_any test (drop (i + 1) xs))
any-step test xs i x t got is = ap (list_any test) (drop-get xs i x got) ∙ ap (λ (s : Bool). s || list_any test (drop (i + 1) xs)) is

-- there is an output for each directive
pub outputs_len : (s : PlainScript) → length (outputs s) ≡ length s.blocks
outputs_len s = length-outputs s

-- one line further up
pub marked-next : (ls : List Line) (n : ℕ) (line : Line) → slice_get ls n ≡ Some line → is_lead line ≡ true → is_mark line ≡ false → marked ls n ≡ marked ls (suc n)
marked-next ls n line got lead mark =
    sym (ap (λ (l : Line). is_lead l && (is_mark l || marked ls n)) (get_or_from_slice_get ls n line [] got)
    ∙ ap (λ (t : Bool). t && (is_mark line || marked ls n)) lead
    ∙ ap (λ (t : Bool). t || marked ls n) mark)

-- ---- the first place

pub rising-head : (a : ℕ) (ks : List ℕ) (p : ℕ) → IsRising a ks → slice_get ks 0 ≡ Some p → a ≤ p
rising-head a [] p rising got = absurd cc
rising-head a (k ∷ ks) p rising got = let e : k ≡ p = cc in omega (arith, rising.0, e)

pub at_most-head : (n : ℕ) (ks : List ℕ) (p : ℕ) → AreAtMost n ks → slice_get ks 0 ≡ Some p → p ≤ n
at_most-head n [] p all got = absurd cc
at_most-head n (k ∷ ks) p all got = let e : k ≡ p = cc in omega (arith, all.0, e)

pub head-first : (ks : List ℕ) (p : ℕ) → slice_get ks 0 ≡ Some p → 1 ≤ p → IsFirst (p - 1 + 1) ks
head-first [] p got some = absurd cc
head-first (k ∷ ks) p got some = let e : k ≡ p = cc in omega (arith, some, e)

pub of_first-is : (f : ℕ → List ℕ) (k : ℕ) (ks : List ℕ) → IsFirst k ks → f k ≡ of_first f ks
of_first-is f k [] first = absurd first
of_first-is f k (x ∷ ks) first = ap f (sym first)

-- the line of the head at an index
pub head_line-is : (heads : List ℕ) (i line : ℕ) → slice_get heads i ≡ Some line → line ≡ head_line heads (i + 1)
head_line-is heads i line got =
    let on : i ≡ i + 1 - 1 = omega arith in
    sym (get_or_from_slice_get heads i line 0 got) ∙ ap (λ (k : ℕ). slice_index heads k) on

pub first-brief : (path heads : List ℕ) (s : PlainScript) (i m n line : ℕ) → IsFirst (i + 1) (mismatches s) → m ≡ length (mismatches s) → n ≡ length s.blocks → slice_get heads i ≡ Some line
    → brief_text path m n line ≡ of_first (brief_at path heads s) (mismatches s)
first-brief path heads s i m n line first many count got =
    ap₂ (λ (a b : ℕ). brief_text path a b line) many count
    ∙ ap (λ (l : ℕ). brief_text path (length (mismatches s)) (length s.blocks) l) (head_line-is heads i line got)
    ∙ of_first-is (brief_at path heads s) (i + 1) (mismatches s) first
