use Rattle.rb_machine.specs.Views.{view_item}
use Rattle.rb_cluster.proofs.ViewLaws.{item_shown}
use Rattle.rb_cluster.proofs.views.show_views.Goals as goal

pub loop-i-preserved : goal.loop-i-preserved
loop-i-preserved g c =
    item_shown g.O.Observer.taking view_item c.args.tracker.now.views c.loop-i.i _ (g.O.Observer.meaning c.loop-i.observer) (g.O.Observer.meaning c.observe.new.self) _ c.view-id.ensures c.in_ok-observe.ensures c.loop-i.invariant
