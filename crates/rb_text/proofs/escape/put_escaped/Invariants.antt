-- What came so far went out whole.
use Rattle.std.proofs.Common.{drop}
use Rattle.std.specs.List.{flat_map}
use Rattle.rb_text.proofs.SentLaws.{Sent}
use Rattle.rb_text.proofs.escape.put_escaped.Given as goal

abbrev pub invariant-loop-b : goal.invariant-loop-b
invariant-loop-b g l =
    let text = flat_map (g.E.Escape.text l.escape) in
    record {
      sent : Sent (g.S.Sink.held l.initial.sink) (g.S.Sink.held l.sink) (text l.bytes) (text (drop l.b-index l.bytes));
      takes : g.S.Sink.takes_all l.initial.sink → g.S.Sink.takes_all l.sink;
    }
