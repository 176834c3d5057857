-- The piece goes on up to here.
use Rattle.std.proofs.Common.{◌≡◌, ◌≤◌, drop, length}
use Rattle.rb_editor.specs.Selections.{piece_end}
use Rattle.rb_editor.proofs.actions.piece.piece_end.Given as goal

abbrev pub invariant-loop-i : goal.invariant-loop-i
invariant-loop-i l = record {
  same : piece_end l.kind l.i l.inside (drop l.i l.line) ≡ piece_end l.kind l.column l.begins_inside (drop l.column l.line);
  within : l.i ≤ length l.line;
}
