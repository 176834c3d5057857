-- What is shown where only what differs is: the mismatches. And where nothing is.
use Rattle.std.proofs.Common.{◌≡◌, ◌∙◌, ℕ, suc, ◌+◌, ◌-◌, ◌≤◌, Bool, true, false, List, [], ◌∷◌, ◌++◌, length, Option, None, refl, ap, ap₂, sym, arith}
use Rattle.std.specs.Prelude.{◌&&◌, ◌||◌, not, slice_index, slice_index_or}
use Rattle.std.specs.List.{list_any}
use Rattle.rb_script.specs.Lines.{Line}
use Rattle.rb_script.specs.Script.{PlainBlock, PlainScript}
use Rattle.rb_replay.specs.Points.{IsRising}
use Rattle.rb_replay.specs.Run.{outputs}
use Rattle.rb_replay.specs.Report.{same_lines, differing, mismatches}
use Rattle.rb_replay.proofs.DifferingLaws.{differing-rising}
use Rattle.rb_report.specs.declared.check.colors.Colors.{Colors}
use Rattle.rb_report.specs.declared.check.table.TheConstants.{MAX_SCRIPT_CELLS}
use Rattle.rb_report.specs.Diffs.{left_after}
use Rattle.rb_script_report.specs.declared.summary.ScriptSummary.{ScriptSummary}
use Rattle.rb_script_report.specs.declared.view.Detail.{Detail}
use Rattle.rb_script_report.specs.declared.view.Detail.TheVariants as shown
use Rattle.rb_script_report.specs.Errors.{is_error, says_error, is_unexpected, error_count}
use Rattle.rb_script_report.specs.Checked.{directive_shown, mismatch_shown, left_next, all_shown, checked_text, mismatch_at, mismatches_at, left_behind, brief_at, of_first, first_head, NoneIsNamed}
use Rattle.rb_script_report.specs.Shows.{summary_of, IsQuiet}

abbrev no_block : PlainBlock
no_block = record { lead = []; head = []; input = []; expected = [] }

-- what is shown with the d-th of these
abbrev nth : ℕ → Colors → List ℕ → List ℕ → List PlainBlock → List (List Line) → ℕ → List ℕ
nth left colors path heads bs os d = mismatch_shown left false colors path (slice_index heads d) (slice_index_or bs d no_block) (slice_index_or os d [])

-- and what it leaves
abbrev nth_left : ℕ → List PlainBlock → List (List Line) → ℕ → ℕ
nth_left left bs os d = left_after left (slice_index_or bs d no_block).expected (slice_index_or os d [])

-- those at places that count from p
abbrev from_places : ℕ → Colors → List ℕ → List ℕ → List PlainBlock → List (List Line) → ℕ → List ℕ → List ℕ
from_places left colors path heads bs os p [] = []
from_places left colors path heads bs os p (k ∷ ks) = nth left colors path heads bs os (k - p) ++ from_places (nth_left left bs os (k - p)) colors path heads bs os p ks

at-places : (left : ℕ) (colors : Colors) (path heads : List ℕ) (s : PlainScript) (ks : List ℕ) → from_places left colors path heads s.blocks (outputs s) 1 ks ≡ mismatches_at left colors path heads s ks
at-places left colors path heads s [] = refl
at-places left colors path heads s (k ∷ ks) = ap (λ (t : List ℕ). mismatch_at left colors path heads s k ++ t) (at-places (left_behind left s k) colors path heads s ks)

rising-from : (a b : ℕ) (ks : List ℕ) → a ≤ b → IsRising b ks → IsRising a ks
rising-from a b [] le rising = tt
rising-from a b (k ∷ ks) le rising = (omega (arith, le, rising.0), rising.1)

-- one more stands before them
shifted : (left : ℕ) (colors : Colors) (path heads : List ℕ) (bs : List PlainBlock) (os : List (List Line)) (line : ℕ) (b : PlainBlock) (o : List Line) (p : ℕ) (ks : List ℕ) → IsRising (p + 1) ks
    → from_places left colors path heads bs os (p + 1) ks ≡ from_places left colors path (line ∷ heads) (b ∷ bs) (o ∷ os) p ks
shifted left colors path heads bs os line b o p [] rising = refl
shifted left colors path heads bs os line b o p (k ∷ ks) rising =
    let on : suc (k - (p + 1)) ≡ k - p = omega (arith, rising.0) in
    ap (λ (t : List ℕ). nth left colors path heads bs os (k - (p + 1)) ++ t)
    (shifted (nth_left left bs os (k - (p + 1))) colors path heads bs os line b o p ks (rising-from (p + 1) (k + 1) ks (omega (arith, rising.0)) rising.1))
    ∙ ap (λ (d : ℕ). nth left colors path (line ∷ heads) (b ∷ bs) (o ∷ os) d ++ from_places (nth_left left (b ∷ bs) (o ∷ os) d) colors path (line ∷ heads) (b ∷ bs) (o ∷ os) p ks) on

test_cases : {A : Type 0} (t : Bool) → (t ≡ true → A) → (t ≡ false → A) → A
test_cases true same other = same refl
test_cases false same other = other refl

second : (t u : Bool) → t ≡ true → (t && u) ≡ false → u ≡ false
second true u e h = h
second false u e h = absurd cc

neither : (t u : Bool) → (t || u) ≡ false → (t ≡ false) × (u ≡ false)
neither true u h = absurd cc
neither false u h = (refl, h)

shown-differing : (left : ℕ) (colors : Colors) (ls : List Line) (path heads : List ℕ) (bs : List PlainBlock) (os : List (List Line)) (p : ℕ) → length heads ≡ length bs → NoneIsNamed ls heads bs os
    → all_shown left false colors ls path heads bs os ≡ from_places left colors path heads bs os p (differing p bs os)
shown-differing left colors ls path [] [] os p e none = refl
shown-differing left colors ls path [] (b ∷ bs) os p e none = absurd (omega (arith, e))
shown-differing left colors ls path (line ∷ heads) [] os p e none = absurd (omega (arith, e))
shown-differing left colors ls path (line ∷ heads) (b ∷ bs) [] p e none = refl
shown-differing left colors ls path (line ∷ heads) (b ∷ bs) (o ∷ os) p e none =
    let ks : List ℕ = differing (p + 1) bs os in
    let rest : (n : ℕ) → all_shown n false colors ls path heads bs os ≡ from_places n colors path (line ∷ heads) (b ∷ bs) (o ∷ os) p ks =
    λ n. shown-differing n colors ls path heads bs os (p + 1) (omega (arith, e)) none.1 ∙ shifted n colors path heads bs os line b o p ks (differing-rising (p + 1) bs os) in
    let here : 0 ≡ p - p = omega arith in
    test_cases (same_lines b.expected o)
    (λ yes. let unnamed : is_unexpected ls line o ≡ false = second (same_lines b.expected o) (is_unexpected ls line o) yes none.0 in rw (yes, unnamed) (rest left))
    (λ no.
    let shown : directive_shown left false colors ls path line b o ≡ mismatch_shown left false colors path line b o = rw no refl in
    let spent : left_next left b o ≡ left_after left b.expected o = rw no refl in
    let first : differing p (b ∷ bs) (o ∷ os) ≡ p ∷ ks = rw no refl in
    ap₂ (λ (t u : List ℕ). t ++ u) shown (ap (λ (n : ℕ). all_shown n false colors ls path heads bs os) spent ∙ rest (left_after left b.expected o))
    ∙ ap (λ (d : ℕ). nth left colors path (line ∷ heads) (b ∷ bs) (o ∷ os) d ++ from_places (nth_left left (b ∷ bs) (o ∷ os) d) colors path (line ∷ heads) (b ∷ bs) (o ∷ os) p ks) here
    ∙ ap (λ (is : List ℕ). from_places left colors path (line ∷ heads) (b ∷ bs) (o ∷ os) p is) (sym first))

pub shown-mismatches : (colors : Colors) (ls : List Line) (path heads : List ℕ) (s : PlainScript) → length heads ≡ length s.blocks → NoneIsNamed ls heads s.blocks (outputs s)
    → checked_text shown.Differing colors ls path heads s ≡ mismatches_at MAX_SCRIPT_CELLS colors path heads s (mismatches s)
shown-mismatches colors ls path heads s e none =
    shown-differing MAX_SCRIPT_CELLS colors ls path heads s.blocks (outputs s) 1 e none ∙ at-places MAX_SCRIPT_CELLS colors path heads s (mismatches s)

-- ---- nothing

quiet-shown : (left : ℕ) (colors : Colors) (ls : List Line) (path heads : List ℕ) (bs : List PlainBlock) (os : List (List Line)) (p : ℕ) → differing p bs os ≡ [] → list_any is_error os ≡ false → all_shown left false colors ls path heads bs os ≡ []
quiet-shown left colors ls path [] bs os p same none = refl
quiet-shown left colors ls path (line ∷ heads) [] os p same none = refl
quiet-shown left colors ls path (line ∷ heads) (b ∷ bs) [] p same none = refl
quiet-shown left colors ls path (line ∷ heads) (b ∷ bs) (o ∷ os) p same none =
    let no = neither (is_error o) (list_any is_error os) none in
    let unnamed : is_unexpected ls line o ≡ false = ap (λ (t : Bool). t && not (says_error ls line)) no.0 in
    test_cases (same_lines b.expected o)
    (λ yes. let later : differing (p + 1) bs os ≡ [] = rw yes at same in rw (yes, unnamed) (quiet-shown left colors ls path heads bs os (p + 1) later no.1))
    (λ other. let first : p ∷ differing (p + 1) bs os ≡ [] = rw other at same in absurd cc)

quiet-count : (ls : List Line) (heads : List ℕ) (os : List (List Line)) → list_any is_error os ≡ false → error_count ls heads os ≡ 0
quiet-count ls [] os none = refl
quiet-count ls (line ∷ heads) [] none = refl
quiet-count ls (line ∷ heads) (o ∷ os) none =
    let no = neither (is_error o) (list_any is_error os) none in
    let unnamed : is_unexpected ls line o ≡ false = ap (λ (t : Bool). t && not (says_error ls line)) no.0 in
    let rest : error_count ls heads os ≡ 0 = quiet-count ls heads os no.1 in
    rw unnamed (omega (arith, rest))

pub shown-nothing : (wanted : Detail) (colors : Colors) (ls : List Line) (path heads : List ℕ) (s : PlainScript) → IsQuiet wanted s → checked_text wanted colors ls path heads s ≡ []
shown-nothing shown.Differing colors ls path heads s q = quiet-shown MAX_SCRIPT_CELLS colors ls path heads s.blocks (outputs s) 1 q.same q.no_error
shown-nothing shown.All colors ls path heads s q = absurd (q.not_all refl)
shown-nothing shown.First colors ls path heads s q = ap (λ (ks : List ℕ). of_first (mismatch_at MAX_SCRIPT_CELLS colors path heads s) ks) q.same
shown-nothing shown.Brief colors ls path heads s q = ap (λ (ks : List ℕ). of_first (brief_at path heads s) ks) q.same

abbrev told_by : Option ℕ → ℕ → ScriptSummary
told_by first errors = record { first = first; errors = errors }

pub found-nothing : (wanted : Detail) (ls : List Line) (heads : List ℕ) (s : PlainScript) → IsQuiet wanted s → summary_of ls heads s ≡ told_by None 0
found-nothing wanted ls heads s q = ap₂ told_by (ap (λ (ks : List ℕ). first_head heads ks) q.same) (quiet-count ls heads (outputs s) q.no_error)
