use Rattle.rb_machine.specs.Observers.{watched}
use Rattle.rb_cluster.proofs.JoinLaws.{joined_more}
use Rattle.rb_cluster.proofs.cluster.Cluster.add_each_node.Goals as goal

pub loop-id-preserved : goal.loop-id-preserved
loop-id-preserved g c =
    joined_more g.O.Observer.taking g.O.Observer.settling c.args.start.now c.args.options (watched c.loop-id.self (g.O.Observer.meaning c.loop-id.observer)) (watched c.add_node.new.self (g.O.Observer.meaning c.add_node.new.observer)) _ c.loop-id.id c.args.end
    c.loop-id-test.true c.in_ok-add_node.ensures c.loop-id.invariant
