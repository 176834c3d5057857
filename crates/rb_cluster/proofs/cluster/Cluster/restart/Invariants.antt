-- From here the nodes that are left do what all were to do, and show what all were to show.
use Rattle.std.proofs.Common.{◌≡◌, drop}
use Rattle.rb_machine.specs.Acts.{restart_each}
use Rattle.rb_machine.specs.Observers.{after}
use Rattle.rb_cluster.proofs.cluster.Cluster.restart.Given as goal

abbrev pub invariant-loop-id : goal.invariant-loop-id
invariant-loop-id g l =
    after g.O.Observer.taking g.O.Observer.settling (g.O.Observer.meaning l.initial.observer) (restart_each l.initial.self l.ids) ≡ after g.O.Observer.taking g.O.Observer.settling (g.O.Observer.meaning l.observer) (restart_each l.self (drop l.id-index l.ids))
