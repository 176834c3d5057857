-- The warnings so far went out whole.
use Rattle.std.proofs.Common.{drop}
use Rattle.rb_text.proofs.SentLaws.{Sent}
use Rattle.rb_program.specs.Notes.{warnings_noted}
use Rattle.rb_program.proofs.noting.put_warnings.Given as goal

abbrev pub invariant-loop-warning : goal.invariant-loop-warning
invariant-loop-warning g l = record {
  sent : Sent (g.S.Sink.held l.initial.sink) (g.S.Sink.held l.sink) (warnings_noted l.path l.doubts) (warnings_noted l.path (drop l.warning-index l.doubts));
  takes : g.S.Sink.takes_all l.initial.sink → g.S.Sink.takes_all l.sink;
}
