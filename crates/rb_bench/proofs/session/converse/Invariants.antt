-- So many turns went out, and took so much of the input.
use Rattle.rb_text.specs.Left.{left_of}
use Rattle.rb_text.specs.Asked.{GoesOn, HasCallsFor, size_of}
use Rattle.rb_text.specs.Taken.{TakesWhole}
use Rattle.rb_bench.specs.Handed.{IsHandedOn}
use Rattle.rb_bench.proofs.TurnLaws.{HasGone}
use Rattle.rb_bench.proofs.session.converse.Given as goal

abbrev pub invariant-turns : goal.invariant-turns
invariant-turns g l = record {
  gone : HasGone (left_of l.initial.input (g.S.Source.left l.initial.source)) (left_of l.input (g.S.Source.left l.source)) l.initial.session l.session (g.W.Sink.held l.initial.writer) (g.W.Sink.held l.writer);
  handed : IsHandedOn (g.W.Outlet.handed l.initial.writer) (g.W.Sink.held l.initial.writer) → IsHandedOn (g.W.Outlet.handed l.writer) (g.W.Sink.held l.writer);
  goes : GoesOn l.initial.input l.input (g.S.Source.left l.initial.source) (g.S.Source.left l.source) (g.S.Source.asked l.initial.source) (g.S.Source.asked l.source);
  whole : TakesWhole l.initial.input l.input (g.S.Source.left l.initial.source) (g.S.Source.left l.source);
  taking : g.W.Sink.takes_all l.initial.writer → g.W.Sink.takes_all l.writer;
  all : g.S.Source.gives_all l.initial.source → HasCallsFor l.initial.input (g.S.Source.left l.initial.source) → g.W.Sink.takes_all l.initial.writer
      → g.S.Source.gives_all l.source × g.W.Sink.takes_all l.writer;
}

abbrev pub decreases-turns : goal.decreases-turns
decreases-turns g l = size_of l.input
