-- From here the rounds that are left do what all were to do.
use Rattle.std.proofs.Common.{◌≡◌, ◌-◌}
use Rattle.rb_machine.specs.Rounds.{rounds_run}
use Rattle.rb_machine.specs.Observers.{after}
use Rattle.rb_cluster.proofs.cluster.Cluster.run_rounds.Given as goal

abbrev pub invariant-loop-round : goal.invariant-loop-round
invariant-loop-round g l =
    after g.O.Observer.taking g.O.Observer.settling (g.O.Observer.meaning l.initial.observer) (rounds_run l.rounds l.rounds l.ids l.initial.self)
    ≡ after g.O.Observer.taking g.O.Observer.settling (g.O.Observer.meaning l.observer) (rounds_run l.rounds (l.rounds - l._round) l.ids l.self)
