-- What is drawn so far, and the directives that are left; what was printed.
use Rattle.std.proofs.Common.{◌≡◌, ◌+◌, ◌≤◌, ◌^◌, [], drop, take}
use Rattle.rb_machine.specs.Cluster.{empty}
use Rattle.rb_replay.specs.Run.{outputs, state}
use Rattle.rb_view.specs.Drawn.{view_of, views_from}
use Rattle.rb_view.proofs.chart.draw.draw_directives.Given as goal

abbrev pub invariant-loop-i : goal.invariant-loop-i
invariant-loop-i g l = record {
  drawn : views_from l.part (view_of l.both.second) l.cluster (drop l.i l.heads) (drop l.i l.script.blocks) ≡ views_from l.part (view_of l.initial.both.second) empty l.heads l.script.blocks;
  here : l.cluster ≡ state l.script l.i;
  printed : l.printed ≡ take l.i (outputs l.script);
  none : l.both.first.lines ≡ [];
  counted : l.initial.meter ≤ 2 ^ 62 → l.meter ≡ l.initial.meter + l.i;
}
