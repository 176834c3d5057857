-- The lines so far went out whole.
use Rattle.std.proofs.Common.{drop, map}
use Rattle.rb_text.proofs.SentLaws.{Sent}
use Rattle.rb_report.specs.Manual.{lines_text}
use Rattle.rb_report.proofs.help.page.put_lines.Given as goal

abbrev pub invariant-loop-page : goal.invariant-loop-page
invariant-loop-page g l = record {
  sent : Sent (g.S.Sink.held l.initial.sink) (g.S.Sink.held l.sink) (lines_text (map (λ p. (p.0.now, p.1.now, p.2.now)) l.pages)) (lines_text (map (λ p. (p.0.now, p.1.now, p.2.now)) (drop l.page-index l.pages)));
  takes : g.S.Sink.takes_all l.initial.sink → g.S.Sink.takes_all l.sink;
}
