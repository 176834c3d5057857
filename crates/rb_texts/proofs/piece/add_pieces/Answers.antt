use Rattle.rb_texts.specs.Pieces.{piece_text}
use Rattle.rb_texts.proofs.PieceLaws.{added_more}
use Rattle.rb_texts.proofs.piece.add_pieces.Goals as goal

pub loop-piece-preserved : goal.loop-piece-preserved
loop-piece-preserved c =
    added_more piece_text c.args.pieces.now c.loop-piece.piece-index _ c.args.line.now c.loop-piece.line c.add_piece.new.line c.loop-piece-test.true c.loop-piece.invariant c.in_ok-add_piece.ensures
