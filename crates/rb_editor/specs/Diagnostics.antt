-- Diagnostics. (This project's.)
use Rattle.std.specs.Prelude.{ℕ, List, Option}
use Rattle.rb_editor.specs.declared.actions.diagnostic.DiagnosticKind.{DiagnosticKind}

-- an actual output as far as it is shown, and the lines of the expectation that it differs from: the first, and the one after the last, counted from 0
pub record PlainActualOutput : Type 0 where
  pub first : ℕ
  pub behind : ℕ
  pub shown : List ℕ

-- a diagnostic of a line, counted from 1; a mismatch has its actual output
pub record PlainDiagnostic : Type 0 where
  pub line : ℕ
  pub kind : DiagnosticKind
  pub message : List ℕ
  pub came : Option PlainActualOutput
