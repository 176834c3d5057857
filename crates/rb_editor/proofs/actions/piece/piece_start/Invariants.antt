-- Where the piece begins that the bytes so far end in.
use Rattle.std.proofs.Common.{◌≡◌, ◌≤◌, drop, false, length}
use Rattle.rb_editor.specs.Selections.{piece_start}
use Rattle.rb_editor.proofs.actions.piece.piece_start.Given as goal

abbrev pub invariant-loop-at : goal.invariant-loop-at
invariant-loop-at l = record {
  same : piece_start l.kind l.start l.at l.inside (drop l.at l.bytes) ≡ piece_start l.kind 0 0 false l.bytes;
  within : l.start ≤ length l.bytes;
}
