-- The fields so far went out whole.
use Rattle.std.proofs.Common.{drop}
use Rattle.std.specs.List.{flat_map}
use Rattle.rb_text.proofs.SentLaws.{Sent}
use Rattle.rb_view.specs.MessageRows.{field_text}
use Rattle.rb_view.proofs.rows.message.put_fields.Given as goal

abbrev pub invariant-loop-field : goal.invariant-loop-field
invariant-loop-field g l = record {
  sent : Sent (g.S.Sink.held l.initial.sink) (g.S.Sink.held l.sink) (flat_map field_text l.fields) (flat_map field_text (drop l.field-index l.fields));
  takes : g.S.Sink.takes_all l.initial.sink → g.S.Sink.takes_all l.sink;
}
