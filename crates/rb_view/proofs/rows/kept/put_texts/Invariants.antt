-- What came so far went out whole.
use Rattle.std.proofs.Common.{drop}
use Rattle.rb_view.specs.Kept.{joined}
use Rattle.rb_text.proofs.SentLaws.{Sent}
use Rattle.rb_view.proofs.rows.kept.put_texts.Given as goal

abbrev pub invariant-loop-i : goal.invariant-loop-i
invariant-loop-i g l = record {
  sent : Sent (g.S.Sink.held l.initial.sink) (g.S.Sink.held l.sink) (joined l.texts) (joined (drop l.i l.texts));
  takes : g.S.Sink.takes_all l.initial.sink → g.S.Sink.takes_all l.sink;
}
