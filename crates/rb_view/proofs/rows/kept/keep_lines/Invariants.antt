-- The rows so far, and those of the lines that are left.
use Rattle.std.proofs.Common.{◌≡◌, ◌++◌, drop}
use Rattle.rb_view.specs.Kept.{line_rows, texts_of}
use Rattle.rb_view.proofs.rows.kept.keep_lines.Given as goal

abbrev pub invariant-loop-i : goal.invariant-loop-i
invariant-loop-i l = l.texts ++ texts_of (line_rows l.name (drop l.i l.lines)) ≡ l.initial.texts ++ texts_of (line_rows l.name l.lines)
