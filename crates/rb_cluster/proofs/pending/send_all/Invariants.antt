-- The messages so far were sent.
use Rattle.std.proofs.Common.{◌≡◌}
use Rattle.rb_machine.specs.Cluster.{Cluster}
use Rattle.rb_machine.specs.Pending.{all_sent, with_pending}
use Rattle.rb_machine.specs.Observers.{watched, after}
use Rattle.rb_cluster.proofs.pending.send_all.Given as goal

abbrev pub invariant-loop-message : goal.invariant-loop-message
invariant-loop-message g l =
    (c : Cluster) → watched (with_pending c l.pending.items) (g.O.Observer.meaning l.observer) ≡ after g.O.Observer.taking g.O.Observer.settling (g.O.Observer.meaning l.initial.observer) (all_sent (with_pending c l.initial.pending.items) l.yielded)
