-- The diagnostics of directives one after another: those so far, and those still to come. How many cells comparing takes for them.
use Rattle.std.proofs.Common.{◌≡◌, ◌∙◌, ℕ, ◌+◌, ◌-◌, ◌≤◌, List, [], ◌∷◌, ◌++◌, length, drop, Some, refl, ap, arith, inl, inr}
use Rattle.std.specs.Prelude.{slice_get}
use Rattle.std.proofs.lemmas.Bool.{cases_Bool}
use Rattle.std.proofs.lemmas.List.{drop_all}
use Rattle.rb_script.specs.Lines.{Line}
use Rattle.rb_script.specs.Script.{PlainBlock, PlainScript}
use Rattle.rb_replay.specs.Run.{outputs}
use Rattle.rb_replay.specs.Report.{same_lines}
use Rattle.rb_report.specs.declared.check.table.TheConstants.{MAX_SCRIPT_CELLS}
use Rattle.rb_report.specs.Diffs.{cells_within}
use Rattle.rb_report.proofs.CellLaws.{most-of_all}
use Rattle.rb_text.proofs.SentLaws.{drop-get}
use Rattle.rb_script_report.specs.Checked.{left_next}
use Rattle.rb_script_report.proofs.EachLaws.{more, done}
use Rattle.rb_editor.specs.Diagnostics.{PlainDiagnostic}
use Rattle.rb_editor.specs.Findings.{before, cells_for, finding, findings}

finding_step : (left first : ℕ) (ls : List Line) (heads : List ℕ) (bs : List PlainBlock) (os : List (List Line)) (i line : ℕ) (b : PlainBlock) (o : List Line)
    → slice_get heads i ≡ Some line → slice_get bs i ≡ Some b → slice_get os i ≡ Some o
    → findings left first ls (drop i heads) (drop i bs) (drop i os) ≡ before (finding left first ls line b o) [] ++ findings (left_next left b o) first ls (drop (i + 1) heads) (drop (i + 1) bs) (drop (i + 1) os)
finding_step left first ls heads bs os i line b o head block output =
    ap (λ (ns : List ℕ). findings left first ls ns (drop i bs) (drop i os)) (drop-get heads i line head)
    ∙ ap (λ (cs : List PlainBlock). findings left first ls (line ∷ drop (i + 1) heads) cs (drop i os)) (drop-get bs i b block)
    ∙ ap (λ (outs : List (List Line)). findings left first ls (line ∷ drop (i + 1) heads) (b ∷ drop (i + 1) bs) outs) (drop-get os i o output)

-- that of one directive more
pub finding_more : (left next first : ℕ) (ls : List Line) (heads : List ℕ) (bs : List PlainBlock) (os : List (List Line)) (i line : ℕ) (b : PlainBlock) (o : List Line) (had has all : List PlainDiagnostic)
    → slice_get heads i ≡ Some line → slice_get bs i ≡ Some b → slice_get os i ≡ Some o → next ≡ left_next left b o → has ≡ had ++ before (finding left first ls line b o) []
    → had ++ findings left first ls (drop i heads) (drop i bs) (drop i os) ≡ all → has ++ findings next first ls (drop (i + 1) heads) (drop (i + 1) bs) (drop (i + 1) os) ≡ all
finding_more left next first ls heads bs os i line b o had has all head block output after is so_far =
    let later = findings (left_next left b o) first ls (drop (i + 1) heads) (drop (i + 1) bs) (drop (i + 1) os) in
    ap (λ (n : ℕ). has ++ findings n first ls (drop (i + 1) heads) (drop (i + 1) bs) (drop (i + 1) os)) after
    ∙ more had (before (finding left first ls line b o) []) later (findings left first ls (drop i heads) (drop i bs) (drop i os)) has all is (finding_step left first ls heads bs os i line b o head block output) so_far

none_left : (left first : ℕ) (ls : List Line) (heads : List ℕ) (bs : List PlainBlock) (os : List (List Line)) → bs ≡ [] → findings left first ls heads bs os ≡ []
none_left left first ls [] bs os none = refl
none_left left first ls (line ∷ heads) [] os none = refl
none_left left first ls (line ∷ heads) (b ∷ bs) os none = absurd cc

-- those of all
pub finding_all : (left first : ℕ) (ls : List Line) (heads : List ℕ) (bs : List PlainBlock) (os : List (List Line)) (i : ℕ) (has all : List PlainDiagnostic) → length bs ≤ i
    → has ++ findings left first ls (drop i heads) (drop i bs) (drop i os) ≡ all → has ≡ all
finding_all left first ls heads bs os i has all past so_far =
    done has (findings left first ls (drop i heads) (drop i bs) (drop i os)) all (none_left left first ls (drop i heads) (drop i bs) (drop i os) (drop_all i bs past)) so_far

-- ---- how many cells

within_left : (left : ℕ) (bs : List PlainBlock) (os : List (List Line)) → cells_for left bs os ≤ left
within_left left [] os = omega arith
within_left left (b ∷ bs) [] = omega arith
within_left left (b ∷ bs) (o ∷ os) =
    elim (cases_Bool (same_lines b.expected o)) [
      | inl t ↦ rw t (omega (arith, within_left left bs os))
      | inr f ↦ rw f (with_rest left (cells_within left b.expected o) (λ (n : ℕ). cells_for n bs os) (most-of_all left b.expected o) (within_left (left - cells_within left b.expected o) bs os))
    ]
  where
    with_rest : (left taken : ℕ) (rest : ℕ → ℕ) → taken ≤ left → rest (left - taken) ≤ left - taken → taken + rest (left - taken) ≤ left
    with_rest left taken rest some others = omega (arith, some, others)

pub cells_bounded : (s : PlainScript) → cells_for MAX_SCRIPT_CELLS s.blocks (outputs s) ≤ MAX_SCRIPT_CELLS
cells_bounded s = within_left MAX_SCRIPT_CELLS s.blocks (outputs s)
