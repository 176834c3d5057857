-- The pieces so far joined the line.
use Rattle.std.proofs.Common.{◌≡◌, ◌++◌, take}
use Rattle.rb_texts.specs.Pieces.{pieces_text}
use Rattle.rb_texts.proofs.piece.add_pieces.Given as goal

abbrev pub invariant-loop-piece : goal.invariant-loop-piece
invariant-loop-piece l = l.line ≡ l.initial.line ++ pieces_text (take l.piece-index l.pieces)
