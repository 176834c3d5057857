-- The pieces so far went out whole.
use Rattle.std.proofs.Common.{drop}
use Rattle.std.specs.List.{flat_map}
use Rattle.rb_text.proofs.SentLaws.{Sent}
use Rattle.rb_view.specs.EventRows.{given_text}
use Rattle.rb_view.proofs.rows.event.put_each.Given as goal

abbrev pub invariant-loop-piece : goal.invariant-loop-piece
invariant-loop-piece g l =
    let text = flat_map given_text in
    record {
      sent : Sent (g.S.Sink.held l.initial.sink) (g.S.Sink.held l.sink) (text l.pieces) (text (drop l.piece-index l.pieces));
      takes : g.S.Sink.takes_all l.initial.sink → g.S.Sink.takes_all l.sink;
    }
