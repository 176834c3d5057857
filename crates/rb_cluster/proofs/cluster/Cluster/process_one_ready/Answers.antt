use Rattle.std.proofs.Common.{◌≡◌, ◌<◌, ℕ, Some, true, false, List, length, set, refl, ap, sym, ◌∙◌, rules}
use Rattle.std.specs.Prelude.{fold, slice_get}
use Rattle.std.proofs.lemmas.List.{set-get_or}
use Rattle.std.proofs.lemmas.Option.{slice_get_read}
use Rattle.std.proofs.lemmas.Result.{on_ok_weaker}
use Rattle.rb_node.specs.Node.{PlainNode}
use Rattle.rb_node.specs.Readying.{has_ready}
use Rattle.rb_machine.specs.Cluster.{Cluster, node_at}
use Rattle.rb_machine.specs.Effects.{showing}
use Rattle.rb_machine.specs.Observers.{watched, after}
use Rattle.rb_machine.specs.Readies.{ready_items, advanced_and_settled, ready_processed}
use Rattle.rb_machine.proofs.EffectLaws.{both_shown}
use Rattle.rb_cluster.proofs.ReadyLaws.{ready_none, ready_some}
use Rattle.rb_cluster.proofs.cluster.Cluster.process_one_ready.Goals as goal

pub returns-then-not-has_ready : goal.returns-then-not-has_ready
returns-then-not-has_ready g c =
    let n = c.in-Some.shared.now in
    let nodes = c.self.inside.nodes.items in
    let k = c.place_of.result in
    let before : Cluster = record { nodes = nodes; pending = c.self.inside.pending.items; level = c.self.inside.level } in
    let low : k < length nodes = search rules in
    let at : node_at before c.args.id ≡ Some n = ap (slice_get nodes) (sym c.place_of.ensures) ∙ slice_get_read nodes (length nodes) k n refl low c.in-Some.ensures.value in
    let waits : has_ready n ≡ false = ap has_ready (sym c.node.ensures) ∙ sym c.if-not-has_ready.ensures in
    let same : set nodes k n ≡ nodes = ap (set nodes k) c.in-Some.ensures.value ∙ set-get_or nodes k n in
    let seen = g.O.Observer.meaning c.observe.new.self in
    on_ok_weaker c.observe.result
    (λ shows. ap (λ (ns : List PlainNode). watched (record before { nodes = ns }) seen) same ∙ ap (watched before) shows
    ∙ ap (after g.O.Observer.taking g.O.Observer.settling (g.O.Observer.meaning c.args.observer.now)) (sym (ready_none before c.args.id n at waits) ∙ ap (λ (d : Cluster). ready_processed d c.args.id) c.self.view_is))
    c.observe.ensures

pub returns : goal.returns
returns g c =
    let n = c.in-Some.shared.now in
    let nodes = c.self.inside.nodes.items in
    let k = c.place_of.result in
    let before : Cluster = record { nodes = nodes; pending = c.self.inside.pending.items; level = c.self.inside.level } in
    let low : k < length nodes = search rules in
    let at : node_at before c.args.id ≡ Some n = ap (slice_get nodes) (sym c.place_of.ensures) ∙ slice_get_read nodes (length nodes) k n refl low c.in-Some.ensures.value in
    let works : has_ready n ≡ true = ap has_ready (sym c.node.ensures) ∙ sym c.if-not-has_ready.ensures in
    let lent : node_at before c.args.id ≡ Some c.in_ok-node.node.now = at ∙ ap Some (sym c.in_ok-node.ensures.value) in
    let seen = g.O.Observer.meaning c.advance_and_settle.new.observer in
    let last : ℕ → Cluster = λ i. record before { nodes = set nodes i c.advance_and_settle.new.node; pending = c.advance_and_settle.new.pending.items } in
    let by = g.O.Observer.meaning c.args.observer.now in
    let ready = c.in_ok-show_ready.ensures ∙ ap (λ (m : PlainNode). fold g.O.Observer.taking by (ready_items c.args.id m)) c.node-2.ensures in
    on_ok_weaker c.advance_and_settle.result
    (λ does. both_shown g.O.Observer.taking g.O.Observer.settling by (showing before (ready_items c.args.id n)) (λ d. advanced_and_settled d c.args.id)
    (watched before (g.O.Observer.meaning c.show_ready.new.observer)) (watched (last k) seen) (ap (watched before) ready) (ap (λ i. watched (last i) seen) c.place_of.ensures ∙ does before refl lent)
    ∙ ap (after g.O.Observer.taking g.O.Observer.settling by) (sym (ready_some before c.args.id n at works) ∙ ap (λ (d : Cluster). ready_processed d c.args.id) c.self.view_is))
    c.advance_and_settle.ensures
