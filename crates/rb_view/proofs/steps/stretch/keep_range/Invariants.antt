-- The rows so far, and those of the lines that are left.
use Rattle.std.proofs.Common.{◌≡◌, ◌++◌, drop}
use Rattle.rb_report.specs.LineRanges.{in_range}
use Rattle.rb_view.specs.Kept.{line_rows, texts_of}
use Rattle.rb_view.proofs.steps.stretch.keep_range.Given as goal

abbrev pub invariant-loop-i : goal.invariant-loop-i
invariant-loop-i l = l.texts ++ texts_of (line_rows l.name (drop l.i (in_range l.lines))) ≡ l.initial.texts ++ texts_of (line_rows l.name (in_range l.lines))
