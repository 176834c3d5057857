use Rattle.std.proofs.Common.{◌≡◌, get_or, ◌∙◌, rules}
use Rattle.rb_machine.specs.Observers.{watched, after}
use Rattle.rb_machine.specs.Acts.{restart}
use Rattle.rb_cluster.proofs.EachLaws.{each_next}
use Rattle.rb_cluster.proofs.cluster.Cluster.restart.Goals as goal

pub loop-id-preserved : goal.loop-id-preserved
loop-id-preserved g c =
    let next = watched c.restart_one.new.self (g.O.Observer.meaning c.restart_one.new.observer) in
    let id = get_or c.args.ids.now c.loop-id.id-index 0 in
    let goes : next ≡ after g.O.Observer.taking g.O.Observer.settling (g.O.Observer.meaning c.loop-id.observer) (restart c.loop-id.self id) = search rules in
    c.loop-id.invariant
    ∙ each_next g.O.Observer.taking g.O.Observer.settling restart c.args.ids.now c.loop-id.id-index 0 (watched c.loop-id.self (g.O.Observer.meaning c.loop-id.observer)) next c.loop-id-test.true goes
