use Rattle.rb_texts.specs.Items as items
use Rattle.rb_cluster.proofs.ViewLaws.{item_shown}
use Rattle.rb_cluster.proofs.readies.show_sent.Goals as goal

pub loop-k-preserved : goal.loop-k-preserved
loop-k-preserved g c = item_shown g.O.Observer.taking items.send c.args.outbox.now c.loop-k.k _ (g.O.Observer.meaning c.loop-k.observer) (g.O.Observer.meaning c.observe.new.self) _ c.message.ensures c.in_ok-observe.ensures c.loop-k.invariant
