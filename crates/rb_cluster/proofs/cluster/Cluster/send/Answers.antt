use Rattle.std.proofs.Common.{◌∙◌, ap}
use Rattle.std.proofs.lemmas.Result.{on_ok_weaker}
use Rattle.rb_machine.specs.Cluster.{Cluster}
use Rattle.rb_machine.specs.Observers.{after}
use Rattle.rb_machine.specs.Pending.{sent}
use Rattle.rb_cluster.proofs.cluster.Cluster.send.Goals as goal

pub returns : goal.returns
returns g c =
    let before : Cluster = record { nodes = c.self.inside.nodes.items; pending = c.self.inside.pending.items; level = c.self.inside.level } in
    on_ok_weaker c.send.result
    (λ sends. sends before ∙ ap (λ (d : Cluster). after g.O.Observer.taking g.O.Observer.settling (g.O.Observer.meaning c.args.observer.now) (sent d c.args.message)) c.self.view_is)
    c.send.ensures
