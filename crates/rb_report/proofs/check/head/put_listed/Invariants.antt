-- The values so far went out whole.
use Rattle.std.proofs.Common.{drop}
use Rattle.rb_script.specs.Directive.{plain_argument}
use Rattle.rb_script.specs.Tokens.{plain}
use Rattle.rb_report.specs.Heads.{listed}
use Rattle.rb_text.proofs.SentLaws.{Sent}
use Rattle.rb_report.proofs.check.head.put_listed.Given as goal

abbrev pub invariant-loop-i : goal.invariant-loop-i
invariant-loop-i g l = record {
  sent : Sent (g.S.Sink.held l.initial.sink) (g.S.Sink.held l.sink) (listed 0 (plain_argument (plain l.directive) l.argument).values) (listed l.i (drop l.i (plain_argument (plain l.directive) l.argument).values));
  takes : g.S.Sink.takes_all l.initial.sink → g.S.Sink.takes_all l.sink;
}
