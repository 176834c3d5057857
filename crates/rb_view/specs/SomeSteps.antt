-- The steps of some directives of a script, and how the steps of a page become those of another script. (docs/FORMATS.md.)
use Rattle.std.specs.Prelude.{◌≡◌, ℕ, suc, ◌*◌, ◌<◌, ◌≤◌, nat_le, Bool, ◌&&◌, if◌then◌else◌, List, [], ◌∷◌, ◌++◌, codes, length, map, take, drop}
use Rattle.std.specs.List.{flat_map}
use Rattle.rb_script.specs.Lines.{Line}
use Rattle.rb_script.specs.Script.{PlainBlock, PlainScript}
use Rattle.rb_script.specs.Reading.{directive_of}
use Rattle.rb_report.specs.declared.check.table.TheConstants.{MAX_CELLS, MAX_SCRIPT_CELLS}
use Rattle.rb_machine.specs.Cluster.{Cluster, empty}
use Rattle.rb_machine.specs.Outcome.{outcome}
use Rattle.rb_replay.specs.Run.{state}
use Rattle.rb_script_report.specs.declared.warning.Warning.{Warning}
use Rattle.rb_view.specs.Kept.{texts_of}
use Rattle.rb_view.specs.Rows.{Row, row, number}
use Rattle.rb_view.specs.Steps.{Step, end_row, left_next, step_texts, steps, warning_row}

-- so many lines of either side are compared that have no common line at either end, with so many cells left
abbrev pub are_compared : ℕ → ℕ → ℕ → Bool
are_compared left rows columns = nat_le (suc rows * suc columns) MAX_CELLS && nat_le (suc rows * suc columns) left

-- how many cells that takes
abbrev pub cells_of : ℕ → ℕ → ℕ → ℕ
cells_of left rows columns = if are_compared left rows columns then suc rows * suc columns else 0

-- how many cells are left after blocks that run on a cluster
abbrev pub left_from : ℕ → Cluster → List PlainBlock → ℕ
left_from left c [] = left
left_from left c (b ∷ bs) = left_from (left_next left b.expected (outcome c (directive_of b)).output) (outcome c (directive_of b)).cluster bs

-- after the first directives of a script
abbrev pub left_at : PlainScript → ℕ → ℕ
left_at s n = left_from MAX_SCRIPT_CELLS empty (take n s.blocks)

-- and after all
abbrev pub left_in : PlainScript → ℕ
left_in s = left_at s (length s.blocks)

-- the steps of `count` directives, after the first `from`
abbrev pub some_steps : List ℕ → PlainScript → ℕ → ℕ → List Step
some_steps heads s from count = take count (drop from (steps heads s))

-- ---- as rows

-- how many cells are left
abbrev pub cells_row : ℕ → Row
cells_row left = row (codes "cells") (number left ∷ [])

-- what follows the directives: how many cells are left at the end, what is probably a mistake, and how many there are
abbrev pub texts_after : List Warning → PlainScript → List Line
texts_after ws s = texts_of (cells_row (left_in s) ∷ []) ++ (texts_of (map warning_row ws) ++ texts_of (end_row s ∷ []))

-- those of some directives, and what follows all
abbrev pub some_texts : List ℕ → List Warning → ℕ → ℕ → PlainScript → List Line
some_texts heads ws from count s = flat_map step_texts (some_steps heads s from count) ++ texts_after ws s

-- ---- after an edit

-- the same steps, whose heads are at other lines
abbrev pub relined : List ℕ → List Step → List Step
relined [] ss = []
relined (line ∷ lines) [] = []
relined (line ∷ lines) (s ∷ ss) = record s { line = line } ∷ relined lines ss

-- What two scripts share, by the lines of their heads: the first `front` directives, at the same lines, and those after the first `old_rest` of the old
-- script, which come after the first `new_rest` of the new one, where there are some in the same cluster. In both, as many cells are left at the end as one
-- comparison takes at the most.
pub record StaysAround (old_heads new_heads : List ℕ) (old new : PlainScript) (front old_rest new_rest : ℕ) : Type 0 where
  pub same_front : take front new.blocks ≡ take front old.blocks
  pub same_lines : take front new_heads ≡ take front old_heads
  pub same_rest : drop new_rest new.blocks ≡ drop old_rest old.blocks
  pub same_cluster : new_rest < length new.blocks → state new new_rest ≡ state old old_rest
  pub order : front ≤ new_rest
  pub old_count : length old_heads ≡ length old.blocks
  pub new_count : length new_heads ≡ length new.blocks
  pub old_cells : MAX_CELLS ≤ left_in old
  pub new_cells : MAX_CELLS ≤ left_in new
