-- The lines so far went out whole.
use Rattle.std.proofs.Common.{drop, take}
use Rattle.std.specs.List.{flat_map}
use Rattle.rb_text.proofs.SentLaws.{Sent}
use Rattle.rb_check.specs.Reviews.{with_end}
use Rattle.rb_check.proofs.comment.put_lines.Given as goal

abbrev pub invariant-loop-i : goal.invariant-loop-i
invariant-loop-i g l = record {
  sent : Sent (g.S.Sink.held l.initial.sink) (g.S.Sink.held l.sink) (flat_map with_end (drop l.from (take l.to l.text))) (flat_map with_end (drop l.i (take l.to l.text)));
  takes : g.S.Sink.takes_all l.initial.sink → g.S.Sink.takes_all l.sink;
}
