-- So many lines were taken.
use Rattle.std.proofs.Common.{◌-◌, ◌≤◌}
use Rattle.rb_text.specs.Left.{left_of}
use Rattle.rb_text.specs.Asked.{GoesOn, HasCallsFor}
use Rattle.rb_text.specs.Taken.{TakesWhole}
use Rattle.rb_bench.proofs.HearLaws.{Takes}
use Rattle.rb_bench.proofs.gather.gather.Given as goal

abbrev pub invariant-loop-taken : goal.invariant-loop-taken
invariant-loop-taken g l = record {
  within : l.taken ≤ l.count;
  takes : Takes (left_of l.initial.input (g.S.Source.left l.initial.source)) (left_of l.input (g.S.Source.left l.source)) l.taken l.given;
  whole : TakesWhole l.initial.input l.input (g.S.Source.left l.initial.source) (g.S.Source.left l.source);
  goes : GoesOn l.initial.input l.input (g.S.Source.left l.initial.source) (g.S.Source.left l.source) (g.S.Source.asked l.initial.source) (g.S.Source.asked l.source);
  all : g.S.Source.gives_all l.initial.source → HasCallsFor l.initial.input (g.S.Source.left l.initial.source) → g.S.Source.gives_all l.source;
}

abbrev pub decreases-loop-taken : goal.decreases-loop-taken
decreases-loop-taken g l = l.count - l.taken
