-- The piece so far.
use Rattle.std.proofs.Common.{◌≡◌, drop}
use Rattle.rb_editor.specs.Unfinished.{last_piece, piece_behind}
use Rattle.rb_editor.proofs.offers.unfinished.last_piece.Given as goal

abbrev pub invariant-loop-i : goal.invariant-loop-i
invariant-loop-i l = piece_behind l.piece (drop l.i l.bytes) ≡ last_piece l.bytes
