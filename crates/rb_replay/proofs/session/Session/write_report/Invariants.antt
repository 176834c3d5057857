-- The mismatches so far went out whole.
use Rattle.std.proofs.Common.{◌++◌, ◌∷◌, [], drop, length}
use Rattle.std.specs.List.{flat_map}
use Rattle.rb_script.specs.Lines.{text_of}
use Rattle.rb_replay.specs.Report.{mismatches, mismatch_lines, total_line, report_lines}
use Rattle.rb_text.proofs.SentLaws.{Sent}
use Rattle.rb_replay.proofs.session.Session.write_report.Given as goal

abbrev pub invariant-loop-place : goal.invariant-loop-place
invariant-loop-place g l = record {
  sent : Sent (g.S.Sink.held l.initial.sink) (g.S.Sink.held l.sink) (text_of (report_lines l.self.script))
      (text_of (flat_map (mismatch_lines l.self.script) (drop l.place-index (mismatches l.self.script)) ++ total_line (length l.self.script.blocks) (length (mismatches l.self.script)) ∷ []));
  takes : g.S.Sink.takes_all l.initial.sink → g.S.Sink.takes_all l.sink;
}
