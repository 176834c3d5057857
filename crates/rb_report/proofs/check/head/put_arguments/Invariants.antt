-- The arguments so far went out whole.
use Rattle.std.proofs.Common.{drop}
use Rattle.rb_script.specs.Tokens.{plain}
use Rattle.rb_report.specs.Heads.{arguments_text}
use Rattle.rb_text.proofs.SentLaws.{Sent}
use Rattle.rb_report.proofs.check.head.put_arguments.Given as goal

abbrev pub invariant-loop-i : goal.invariant-loop-i
invariant-loop-i g l = record {
  sent : Sent (g.S.Sink.held l.initial.sink) (g.S.Sink.held l.sink) (arguments_text (plain l.directive).args) (arguments_text (drop l.i (plain l.directive).args));
  takes : g.S.Sink.takes_all l.initial.sink → g.S.Sink.takes_all l.sink;
}
