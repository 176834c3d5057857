-- What came so far went out whole.
use Rattle.std.proofs.Common.{drop}
use Rattle.std.specs.List.{flat_map}
use Rattle.rb_text.specs.Json.{in_page}
use Rattle.rb_text.proofs.SentLaws.{Sent}
use Rattle.rb_view.proofs.rows.span.put_parts.Given as goal

abbrev pub invariant-loop-part : goal.invariant-loop-part
invariant-loop-part g l =
    let text = flat_map g.P.TextPart.text in
    record {
      sent : Sent (g.S.Sink.held l.initial.sink) (g.S.Sink.held l.sink) (flat_map in_page (text l.parts)) (flat_map in_page (text (drop l.part-index l.parts)));
      takes : g.S.Sink.takes_all l.initial.sink → g.S.Sink.takes_all l.sink;
    }
