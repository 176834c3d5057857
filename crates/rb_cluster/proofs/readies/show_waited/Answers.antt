use Rattle.std.proofs.Common.{ap, ◌∙◌}
use Rattle.rb_cluster.proofs.ViewLaws.{other_shown, own_passed}
use Rattle.rb_cluster.proofs.readies.show_waited.Goals.{then-message-id+in_ok-observe, else-message-id}
use Rattle.rb_cluster.proofs.readies.show_waited.Goals as goal

pub loop-k-preserved : goal.loop-k-preserved
loop-k-preserved g c = elim c.if-message-id.branch [
  | then-message-id+in_ok-observe w ↦ other_shown g.O.Observer.taking c.args.id c.args.outbox.now c.loop-k.k c.message-message.result.now (g.O.Observer.meaning c.loop-k.observer) (g.O.Observer.meaning c.if-message-id.observer) _
      c.message-message.ensures w.if-message-id.true (ap (λ o. g.O.Observer.meaning o) w.observer-is ∙ w.in_ok-observe.ensures) c.loop-k.invariant
  | else-message-id w ↦ own_passed g.O.Observer.taking c.args.id c.args.outbox.now c.loop-k.k c.message-message.result.now (g.O.Observer.meaning c.loop-k.observer) (g.O.Observer.meaning c.if-message-id.observer) _
      c.message-message.ensures w.if-message-id.false (ap (λ o. g.O.Observer.meaning o) w.observer-is) c.loop-k.invariant
]
