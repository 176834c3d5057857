use Rattle.rb_machine.specs.Observers.{watched}
use Rattle.rb_machine.specs.Pending.{sent, with_pending}
use Rattle.rb_cluster.proofs.EachLaws.{each_more}
use Rattle.rb_cluster.proofs.pending.send_all.Goals as goal

pub loop-message-preserved : goal.loop-message-preserved
loop-message-preserved g c =
    λ d. each_more g.O.Observer.taking g.O.Observer.settling sent (g.O.Observer.meaning c.args.observer.now) (with_pending d c.args.pending.now.items) c.loop-message.yielded c.in-Some.message
    (watched (with_pending d c.loop-message.pending.items) (g.O.Observer.meaning c.loop-message.observer)) (watched (with_pending d c.send.new.pending.items) (g.O.Observer.meaning c.send.new.observer))
    (c.loop-message.invariant d) (c.in_ok-send.ensures d)
