-- The trace so far, and the directives that are left; what was printed.
use Rattle.std.proofs.Common.{◌≡◌, ◌≤◌, ◌^◌, ◌+◌, drop, take}
use Rattle.rb_machine.specs.Cluster.{empty}
use Rattle.rb_replay.specs.Run.{outputs, state}
use Rattle.rb_view.specs.Traces.{nothing, traced_from}
use Rattle.rb_view.proofs.trace.trace.trace_directives.Given as goal

abbrev pub invariant-loop-i : goal.invariant-loop-i
invariant-loop-i g l = record {
  traced : traced_from (drop l.i l.heads) (l.i + 1) l.machine l.tracer (drop l.i l.script.blocks) ≡ traced_from l.heads 1 empty nothing l.script.blocks;
  here : l.machine ≡ state l.script l.i;
  printed : l.printed ≡ take l.i (outputs l.script);
  counted : l.initial.meter ≤ 2 ^ 62 → l.meter ≡ l.initial.meter + l.i;
}
