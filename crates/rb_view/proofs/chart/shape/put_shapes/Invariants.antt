-- The shapes so far went out whole.
use Rattle.std.proofs.Common.{drop}
use Rattle.rb_view.specs.Shapes.{shapes_text}
use Rattle.rb_text.proofs.SentLaws.{Sent}
use Rattle.rb_view.proofs.chart.shape.put_shapes.Given as goal

abbrev pub invariant-loop-i : goal.invariant-loop-i
invariant-loop-i g l = record {
  sent : Sent (g.S.Sink.held l.initial.sink) (g.S.Sink.held l.sink) (shapes_text l.words l.shapes) (shapes_text l.words (drop l.i l.shapes));
  takes : g.S.Sink.takes_all l.initial.sink → g.S.Sink.takes_all l.sink;
}
