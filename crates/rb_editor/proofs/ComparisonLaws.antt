-- A diff is that of the same lines with other cells left, if comparing them still fits, or still doesn't.
use Rattle.std.proofs.Common.{◌≡◌, ◌∙◌, ℕ, ◌+◌, ◌-◌, ◌<◌, ◌≤◌, Bool, cond, List, [], ◌∷◌, ◌++◌, length, take, drop, ap, arith}
use Rattle.std.specs.Prelude.{◌&&◌, nat_le, if◌then◌else◌}
use Rattle.std.proofs.lemmas.Bool.Decides.{nat_tests}
use Rattle.rb_script.specs.Lines.{Line}
use Rattle.rb_report.specs.declared.check.colors.Colors.TheVariants.{Off}
use Rattle.rb_report.specs.declared.check.table.TheConstants.{MAX_CELLS}
use Rattle.rb_report.specs.Diffs.{Stretch, work, stretches, fits, middle, middle_cells, plain, without_last, last, parts_between, parts_within, cells_within, left_after}
use Rattle.rb_report.specs.Folds.{folded_text}
use Rattle.rb_report.proofs.CellLaws.{most-of_all}
use Rattle.rb_editor.specs.declared.actions.comparisons.Diff.{Diff}
use Rattle.rb_editor.specs.Comparisons.{IsDiffOf}
use Rattle.rb_editor.specs.Came.{without_end}

-- ---- whether so much work fits

-- a comparison that took cells still fits into what is left; one that was left out for lack of cells has no more of them now
record FitsAsBefore (before left cells : ℕ) : Type 0 where
  compared : 0 < cells → cells ≤ left
  left_out : cells ≡ 0 → left ≤ before

same_test : (w most before left cells : ℕ) → 0 < w → cells ≡ cond (nat_le w most && nat_le w before) w 0 → (0 < cells → cells ≤ left) → (cells ≡ 0 → left ≤ before)
    → (nat_le w most && nat_le w before) ≡ (nat_le w most && nat_le w left)
same_test w most before left cells some taken compared left_out = grind (arith, nat_tests)

some_work : (es os : List Line) → 0 < work es os
some_work es os = omega arith

fits_same : (before left cells : ℕ) (es os : List Line) → cells ≡ middle_cells before es os → FitsAsBefore before left cells → fits before es os ≡ fits left es os
fits_same before left cells es os taken as_before = same_test (work es os) MAX_CELLS before left cells (some_work es os) taken as_before.compared as_before.left_out

-- ---- the diff

abbrev middle_by : Bool → List Line → List Line → List Stretch
middle_by t es os = if t then stretches (length es + length os) es os else (record { same = []; expected = es; output = os } ∷ [])

-- what differs between the first n lines and the last m of those after them
parts_between_same : (before left cells n m : ℕ) (es os : List Line) → cells ≡ middle_cells before (without_last m (drop n es)) (without_last m (drop n os)) → FitsAsBefore before left cells
    → parts_between before n m es os ≡ parts_between left n m es os
unfolding middle
parts_between_same before left cells n m es os taken as_before =
    ap (λ (t : Bool). plain (take n es) ∷ (middle_by t (without_last m (drop n es)) (without_last m (drop n os)) ++ plain (last m (drop n es)) ∷ []))
    (fits_same before left cells (without_last m (drop n es)) (without_last m (drop n os)) taken as_before)

middle_cells_same : (before left cells : ℕ) (es os : List Line) → cells ≡ middle_cells before es os → FitsAsBefore before left cells → middle_cells before es os ≡ middle_cells left es os
middle_cells_same before left cells es os taken as_before = ap (λ (t : Bool). cond t (work es os) 0) (fits_same before left cells es os taken as_before)

parts_same : (before left cells : ℕ) (es os : List Line) → cells ≡ cells_within before es os → FitsAsBefore before left cells → parts_within before es os ≡ parts_within left es os
unfolding parts_within cells_within
parts_same before left cells es os taken as_before = parts_between_same before left cells _ _ es os taken as_before

cells_same : (before left cells : ℕ) (es os : List Line) → cells ≡ cells_within before es os → FitsAsBefore before left cells → cells_within before es os ≡ cells_within left es os
unfolding cells_within
cells_same before left cells es os taken as_before = middle_cells_same before left cells _ _ taken as_before

same_diff : (before left : ℕ) (es os : List Line) (d : Diff) → IsDiffOf before es os d → FitsAsBefore before left d.cells → IsDiffOf left es os d
same_diff before left es os d is as_before = record {
  text = is.text ∙ ap (λ (ss : List Stretch). without_end (folded_text Off ss)) (parts_same before left d.cells es os is.cells as_before);
  cells = is.cells ∙ cells_same before left d.cells es os is.cells as_before;
}

-- of lines that were compared, if enough cells are left again
pub compared_again : (before left : ℕ) (es os : List Line) (d : Diff) → IsDiffOf before es os d → 0 < d.cells → d.cells ≤ left → IsDiffOf left es os d
compared_again before left es os d is some enough = same_diff before left es os d is (record { compared = λ _. enough; left_out = λ none. absurd (omega (arith, none, some)) })

-- of lines that weren't, if no more cells are left
pub left_out_again : (before left : ℕ) (es os : List Line) (d : Diff) → IsDiffOf before es os d → d.cells ≡ 0 → left ≤ before → IsDiffOf left es os d
left_out_again before left es os d is none fewer = same_diff before left es os d is (record { compared = λ some. absurd (omega (arith, none, some)); left_out = λ _. fewer })

-- how many cells it took
pub cells_taken : (left after : ℕ) (es os : List Line) → after ≡ left_after left es os → left - after ≡ cells_within left es os
cells_taken left after es os is = omega (arith, is, most-of_all left es os)
