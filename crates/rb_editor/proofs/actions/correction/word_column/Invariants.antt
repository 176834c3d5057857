-- The word so far, and the bytes that are left.
use Rattle.std.proofs.Common.{◌≡◌, ◌≤◌, drop}
use Rattle.std.specs.Prelude.{slice_range}
use Rattle.rb_editor.specs.Corrections.{column_in, word_column}
use Rattle.rb_editor.proofs.actions.correction.word_column.Given as goal

abbrev pub invariant-loop-i : goal.invariant-loop-i
invariant-loop-i l = record {
  from : l.from ≤ l.i;
  same : column_in l.word l.from (slice_range l.line l.from l.i) (drop l.i l.line) ≡ word_column l.word l.line;
}
