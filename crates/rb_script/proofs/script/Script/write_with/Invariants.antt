-- The blocks so far went out whole, each with its output.
use Rattle.rb_script.specs.Script.{all_expecting}
use Rattle.rb_script.proofs.SentLaws.{Sent}
use Rattle.rb_script.proofs.WriteLaws.{left_text}
use Rattle.rb_script.proofs.script.Script.write_with.Given as goal

abbrev pub invariant-loop-i : goal.invariant-loop-i
invariant-loop-i g l = record {
  sent : Sent (g.S.Sink.held l.initial.sink) (g.S.Sink.held l.sink) (left_text (all_expecting l.self-inside.blocks l.outputs) 0 l.self-inside.tail) (left_text (all_expecting l.self-inside.blocks l.outputs) l.i l.self-inside.tail);
  takes : g.S.Sink.takes_all l.initial.sink → g.S.Sink.takes_all l.sink;
}
