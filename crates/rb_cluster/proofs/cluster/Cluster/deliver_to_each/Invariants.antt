-- From here the nodes that are left do what all were to do, and whom no message was for, none is for.
use Rattle.std.proofs.Common.{◌≡◌, ℕ, false, drop}
use Rattle.rb_directive.specs.Requests.{all_mail}
use Rattle.rb_machine.specs.Deliveries.{delivered_each}
use Rattle.rb_cluster.specs.Receivers.{is_marked}
use Rattle.rb_machine.specs.Rounds.{has_mail}
use Rattle.rb_machine.specs.Observers.{after}
use Rattle.rb_cluster.proofs.cluster.Cluster.deliver_to_each.Given as goal

abbrev pub invariant-loop-id : goal.invariant-loop-id
invariant-loop-id g l = record {
  rest : after g.O.Observer.taking g.O.Observer.settling (g.O.Observer.meaning l.initial.observer) (delivered_each all_mail l.initial.self l.ids) ≡ after g.O.Observer.taking g.O.Observer.settling (g.O.Observer.meaning l.observer) (delivered_each all_mail l.self (drop l.id-index l.ids));
  unmarked : (id : ℕ) → is_marked l.receivers.has id ≡ false → has_mail l.self.pending id ≡ false;
}
