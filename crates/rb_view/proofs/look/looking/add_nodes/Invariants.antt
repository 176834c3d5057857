use Rattle.std.specs.Prelude.{◌≡◌, ◌+◌, ◌-◌, ◌*◌, ◌≤◌, ◌++◌}
use Rattle.rb_view.specs.Looks.{of_nodes}
use Rattle.rb_view.proofs.look.looking.add_nodes.Given as goal

abbrev pub invariant-loop-i : goal.invariant-loop-i
invariant-loop-i g l = record {
  so_far : l.lines ++ of_nodes (g.M.Machine.meaning l.machine) (l.i + 1) (l.count - l.i) ≡ l.fn.lines ++ of_nodes (g.M.Machine.meaning l.machine) 1 l.count;
  counted : g.M.Meter.Count.count_of l.meter ≤ g.M.Meter.Count.count_of l.fn.meter + 2 * l.i;
}
