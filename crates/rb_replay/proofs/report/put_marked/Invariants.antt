-- The lines so far went out whole.
use Rattle.std.proofs.Common.{drop}
use Rattle.rb_script.specs.Lines.{text_of}
use Rattle.rb_replay.specs.Report.{marked}
use Rattle.rb_text.proofs.SentLaws.{Sent}
use Rattle.rb_replay.proofs.report.put_marked.Given as goal

abbrev pub invariant-loop-i : goal.invariant-loop-i
invariant-loop-i g l = record {
  sent : Sent (g.S.Sink.held l.initial.sink) (g.S.Sink.held l.sink) (text_of (marked l.mark l.lines)) (text_of (marked l.mark (drop l.i l.lines)));
  takes : g.S.Sink.takes_all l.initial.sink → g.S.Sink.takes_all l.sink;
}
