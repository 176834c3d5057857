-- What joins from here on, of what is left, is what was to join.
use Rattle.std.proofs.Common.{◌≡◌, ◌-◌}
use Rattle.std.specs.List.{range_with_len}
use Rattle.rb_machine.specs.AddNodes.{added_each}
use Rattle.rb_machine.specs.Observers.{after}
use Rattle.rb_cluster.proofs.cluster.Cluster.add_each_node.Given as goal

abbrev pub invariant-loop-id : goal.invariant-loop-id
invariant-loop-id g l =
    after g.O.Observer.taking g.O.Observer.settling (g.O.Observer.meaning l.observer) (added_each l.start l.options l.self (range_with_len l.id (l.end - l.id)))
    ≡ after g.O.Observer.taking g.O.Observer.settling (g.O.Observer.meaning l.fn.observer) (added_each l.start l.options l.fn.self (range_with_len l.first (l.end - l.first)))
