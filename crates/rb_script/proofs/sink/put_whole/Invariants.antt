-- What is gone from `rest` went out, and no call failed.
use Rattle.std.proofs.Common.{length}
use Rattle.rb_script.specs.Writers.{IfCounted, AreUnfailed}
use Rattle.rb_script.proofs.SentLaws.{Sent}
use Rattle.rb_script.proofs.sink.put_whole.Given as goal

abbrev pub invariant-loop-rest : goal.invariant-loop-rest
invariant-loop-rest g l = record {
  sent : Sent (g.W.Writer.contents l.initial.writer) (g.W.Writer.contents l.writer) l.bytes l.rest;
  unfailed : IfCounted (g.W.Writer.calls l.initial.writer) (g.W.Writer.calls l.writer) AreUnfailed;
}

abbrev pub decreases-loop-rest : goal.decreases-loop-rest
decreases-loop-rest g l = length l.rest
