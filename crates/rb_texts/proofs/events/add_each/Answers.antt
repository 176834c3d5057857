use Rattle.std.proofs.Common.{◌++◌, ◌∙◌, ap}
use Rattle.rb_texts.specs.declared.form.EventPiece.{EventPiece}
use Rattle.rb_texts.specs.Events.{given_text}
use Rattle.rb_texts.proofs.PieceLaws.{added_more}
use Rattle.rb_texts.proofs.events.add_each.Goals as goal

pub loop-piece-preserved : goal.loop-piece-preserved
loop-piece-preserved c =
    added_more given_text c.args.pieces.now c.loop-piece.piece-index c.piece-item.result c.args.line.now c.loop-piece.line c.add_event_piece.new.line c.loop-piece-test.true c.loop-piece.invariant
    (c.in_ok-add_event_piece.ensures ∙ ap (λ (x : EventPiece). c.loop-piece.line ++ given_text x) c.piece-item.is)
