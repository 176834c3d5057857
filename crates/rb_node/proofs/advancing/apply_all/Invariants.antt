use Rattle.std.proofs.Common.{◌≡◌, ◌+◌, drop}
use Rattle.rb_node.specs.Node.{node_step}
use Rattle.rb_node.specs.Changing.{applied_all}
use Rattle.rb_node.proofs.advancing.apply_all.Given as goal

abbrev pub invariant-loop-entry : goal.invariant-loop-entry
invariant-loop-entry g l = record {
  at : l.index ≡ l.after + l.entry-index;
  rest : applied_all (node_step l.initial.state l.initial.events.items) l.after l.entries ≡ applied_all (node_step l.state l.events.items) l.index (drop l.entry-index l.entries);
}
