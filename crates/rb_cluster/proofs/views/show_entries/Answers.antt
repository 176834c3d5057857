use Rattle.std.proofs.Common.{◌≡◌, ◌+◌, ◌<◌, ◌≤◌, ℕ, List, ap, ◌∙◌, arith}
use Rattle.rb_raftlog.specs.declared.entry.Entry.{Entry}
use Rattle.rb_raftlog.specs.Log.{LogValue, last}
use Rattle.rb_machine.specs.Entries.{entry_items}
use Rattle.std.specs.Prelude.{fold}
use Rattle.rb_machine.specs.Views.{held_item}
use Rattle.rb_cluster.proofs.ViewLaws.{left_first, entry_shown, entries_shown, entry_held}
use Rattle.rb_cluster.proofs.views.show_entries.Goals as goal

pub loop-index-init : goal.loop-index-init
loop-index-init g c =
    let v : LogValue = g.L.RaftLog.plain c.args.log.now in
    ap (λ (es : List Entry). fold g.O.Observer.taking (g.O.Observer.meaning c.args.observer.now) (entry_items (held_item v.durable) c.first_index-index.result es)) (left_first v c.first_index-index.result c.first_index-index.ensures)
    ∙ ap (λ (i : ℕ). fold g.O.Observer.taking (g.O.Observer.meaning c.args.observer.now) (entry_items (held_item v.durable) i v.entries)) c.first_index-index.ensures

pub unreachable-requires : goal.unreachable-requires
unreachable-requires g c =
    let v : LogValue = g.L.RaftLog.plain c.args.log.now in
    let above : v.base < c.loop-index.index = omega (arith, c.first_index-index.ensures) in
    let below : c.loop-index.index < last v + 1 = omega (arith, c.last_index-index-end.ensures.value) in
    entry_held v c.loop-index.index c.in-Err.field-0 above below c.in-Err.ensures.none

pub loop-index-preserved : goal.loop-index-preserved
loop-index-preserved g c =
    let v : LogValue = g.L.RaftLog.plain c.args.log.now in
    let above : v.base < c.loop-index.index = omega (arith, c.first_index-index.ensures) in
    let put : g.O.Observer.meaning c.observe.new.self ≡ g.O.Observer.taking (g.O.Observer.meaning c.loop-index.observer) (held_item v.durable c.loop-index.index c.in-Ok.entry.now) =
    c.in_ok-observe-in-Ok.ensures ∙ ap (λ (d : ℕ). g.O.Observer.taking (g.O.Observer.meaning c.loop-index.observer) (held_item d c.loop-index.index c.in-Ok.entry.now)) c.durable-durable.ensures in
    let all = fold g.O.Observer.taking (g.O.Observer.meaning c.args.observer.now) (entry_items (held_item v.durable) (v.base + 1) v.entries) in
    entry_shown g.O.Observer.taking (held_item v.durable) v c.loop-index.index c.in-Ok.entry.now (g.O.Observer.meaning c.loop-index.observer) (g.O.Observer.meaning c.observe.new.self) all above c.in-Ok.ensures.found put c.loop-index.invariant

pub returns : goal.returns
returns g c =
    let v : LogValue = g.L.RaftLog.plain c.args.log.now in
    let all = fold g.O.Observer.taking (g.O.Observer.meaning c.args.observer.now) (entry_items (held_item v.durable) (v.base + 1) v.entries) in
    let past : last v + 1 ≤ c.loop-index.index = omega (arith, c.last_index-index-end.ensures.value) in
    entries_shown g.O.Observer.taking (held_item v.durable) v c.loop-index.index (g.O.Observer.meaning c.loop-index.observer) all past c.loop-index.invariant
