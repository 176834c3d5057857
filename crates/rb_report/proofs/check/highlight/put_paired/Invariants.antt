-- The lines so far went out whole, and the position is after them.
use Rattle.std.proofs.Common.{◌+◌, ◌<◌, ◌^◌, drop, length}
use Rattle.rb_text.proofs.SentLaws.{Sent}
use Rattle.rb_report.specs.LineRanges.{in_range}
use Rattle.rb_report.specs.Steps.{counted}
use Rattle.rb_report.specs.Whys.{reasons_in, told_paired}
use Rattle.rb_report.proofs.check.highlight.put_paired.Given as goal

abbrev pub invariant-loop-i : goal.invariant-loop-i
invariant-loop-i g l = record {
  sent : Sent (g.S.Sink.held l.initial.sink) (g.S.Sink.held l.sink) (told_paired l.side (reasons_in l.why) l.fn.position (in_range l.lines) (in_range l.others))
      (told_paired l.side (reasons_in l.why) l.here (drop l.i (in_range l.lines)) (drop l.i (in_range l.others)));
  takes : g.S.Sink.takes_all l.initial.sink → g.S.Sink.takes_all l.sink;
  room : l.here.at + counted l.side (length (drop l.i (in_range l.lines))) < 2 ^ 64;
}
