-- The blocks so far went out whole.
use Rattle.rb_script.proofs.SentLaws.{Sent}
use Rattle.rb_script.proofs.WriteLaws.{left_text}
use Rattle.rb_script.proofs.script.Script.write_to.Given as goal

abbrev pub invariant-loop-i : goal.invariant-loop-i
invariant-loop-i g l = record {
  sent : Sent (g.S.Sink.held l.initial.sink) (g.S.Sink.held l.sink) (left_text l.self-inside.blocks 0 l.self-inside.tail) (left_text l.self-inside.blocks l.i l.self-inside.tail);
  takes : g.S.Sink.takes_all l.initial.sink → g.S.Sink.takes_all l.sink;
}
