-- What comparing an expectation with an output gave. (This project's.)
use Rattle.std.specs.Prelude.{◌≡◌, ℕ, List}
use Rattle.rb_script.specs.Lines.{Line}
use Rattle.rb_report.specs.Diffs.{cells_within}
use Rattle.rb_editor.specs.declared.actions.comparisons.Diff.{Diff}
use Rattle.rb_editor.specs.Findings.{diff_message}

-- the diff if `left` cells are left, and how many cells it takes
pub record IsDiffOf (left : ℕ) (expected output : List Line) (d : Diff) : Type 0 where
  pub text : d.text.items ≡ diff_message left expected output
  pub cells : d.cells ≡ cells_within left expected output
