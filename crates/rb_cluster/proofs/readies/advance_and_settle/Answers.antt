use Rattle.std.proofs.Common.{◌≡◌, List, [], Some, map, ap, sym, ◌∙◌, rules}
use Rattle.std.specs.Prelude.{fold}
use Rattle.std.proofs.lemmas.Result.{on_ok_weaker}
use Rattle.rb_message.specs.declared.event.Event.{Event}
use Rattle.rb_node.specs.Node.{NodeStep, node_step}
use Rattle.rb_node.specs.Readying.{outgoing, advanced}
use Rattle.rb_texts.specs.Items.{event}
use Rattle.rb_machine.specs.Cluster.{Cluster, node_at, with_node}
use Rattle.rb_machine.specs.Effects.{node_settled}
use Rattle.rb_machine.specs.Observers.{watched, after}
use Rattle.rb_machine.specs.Pending.{all_sent, with_pending}
use Rattle.rb_machine.specs.Readies.{node_advanced}
use Rattle.rb_machine.proofs.EffectLaws.{both_shown}
use Rattle.rb_cluster.proofs.ReadyLaws.{advanced_shown, settled_shown}
use Rattle.rb_cluster.proofs.readies.advance_and_settle.Goals as goal

pub returns : goal.returns
returns g c =
    let n = c.args.node.now in
    let by = g.O.Observer.meaning c.args.observer.now in
    let sent = g.O.Observer.meaning c.send_all.new.observer in
    let shown = g.O.Observer.meaning c.show_events.new.observer in
    let t : NodeStep = node_step c.advance.new.self c.advance.new.events.items in
    let is : t ≡ advanced (node_step n []) = search rules in
    let hands : c.advance.new.sent.items ≡ outgoing n = search rules in
    let told : c.deref.result.now ≡ c.advance.new.events.items = search rules in
    let tells = c.in_ok-show_events.ensures ∙ ap (λ (l : List Event). fold g.O.Observer.taking sent (map event l)) told in
    on_ok_weaker c.settle.result
    (λ settles (d : Cluster) (waits : d.pending ≡ c.args.pending.now.items) (at : node_at d c.args.id ≡ Some n).
    let e : Cluster = with_node d c.args.id c.advance.new.self in
    let last : Cluster = with_pending e c.send_all.new.pending.items in
    let first : watched last sent ≡ after g.O.Observer.taking g.O.Observer.settling by (all_sent e c.advance.new.sent.items) =
    c.in_ok-send_all.ensures e ∙ ap (λ p. after g.O.Observer.taking g.O.Observer.settling by (all_sent (with_pending e p) c.advance.new.sent.items)) (sym waits) in
    both_shown g.O.Observer.taking g.O.Observer.settling by (node_advanced d c.args.id) (λ after. node_settled after c.args.id) (watched last shown) (watched last (g.O.Observer.meaning c.settle.new.self))
    (advanced_shown g.O.Observer.taking g.O.Observer.settling by d last c.args.id n t c.advance.new.sent.items sent shown at is hands first tells)
    (settled_shown g.O.Observer.taking g.O.Observer.settling shown (g.O.Observer.meaning c.settle.new.self) d last c.args.id n c.advance.new.self at (search rules) settles))
    c.settle.ensures
