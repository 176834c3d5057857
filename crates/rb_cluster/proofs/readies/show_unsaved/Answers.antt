use Rattle.std.proofs.Common.{◌≡◌, ◌+◌, ◌<◌, ◌≤◌, ℕ, List, ap, ◌∙◌, arith}
use Rattle.rb_raftlog.specs.declared.entry.Entry.{Entry}
use Rattle.rb_raftlog.specs.Log.{LogValue, last, not_durable}
use Rattle.rb_texts.specs.Items as items
use Rattle.rb_machine.specs.Entries.{entry_items}
use Rattle.std.specs.Prelude.{fold}
use Rattle.rb_cluster.proofs.ViewLaws.{left_unsaved, entry_shown, entries_shown, entry_held}
use Rattle.rb_cluster.proofs.readies.show_unsaved.Goals as goal

pub loop-index-init : goal.loop-index-init
loop-index-init g c =
    let v : LogValue = g.L.RaftLog.plain c.args.log.now in
    let i : ℕ = c.durable-index.result + 1 in
    let from : i ≡ v.durable + 1 = omega (arith, c.durable-index.ensures) in
    ap (λ (es : List Entry). fold g.O.Observer.taking (g.O.Observer.meaning c.args.observer.now) (entry_items items.save i es)) (left_unsaved v i from)
    ∙ ap (λ (n : ℕ). fold g.O.Observer.taking (g.O.Observer.meaning c.args.observer.now) (entry_items items.save n (not_durable v))) from

pub unreachable-requires : goal.unreachable-requires
unreachable-requires g c =
    let v : LogValue = g.L.RaftLog.plain c.args.log.now in
    let above : v.base < c.loop-index.index = omega (arith, c.durable-index.ensures, c.last_index-last.ensures.sound.above_base) in
    let below : c.loop-index.index < last v + 1 = omega (arith, c.last_index-last.ensures.value) in
    entry_held v c.loop-index.index c.in-Err.field-0 above below c.in-Err.ensures.none

pub loop-index-preserved : goal.loop-index-preserved
loop-index-preserved g c =
    let v : LogValue = g.L.RaftLog.plain c.args.log.now in
    let above : v.base < c.loop-index.index = omega (arith, c.durable-index.ensures, c.last_index-last.ensures.sound.above_base) in
    let all = fold g.O.Observer.taking (g.O.Observer.meaning c.args.observer.now) (entry_items items.save (v.durable + 1) (not_durable v)) in
    entry_shown g.O.Observer.taking items.save v c.loop-index.index c.in-Ok.entry.now (g.O.Observer.meaning c.loop-index.observer) (g.O.Observer.meaning c.observe.new.self) all above c.in-Ok.ensures.found c.in_ok-observe-in-Ok.ensures c.loop-index.invariant

pub returns : goal.returns
returns g c =
    let v : LogValue = g.L.RaftLog.plain c.args.log.now in
    let all = fold g.O.Observer.taking (g.O.Observer.meaning c.args.observer.now) (entry_items items.save (v.durable + 1) (not_durable v)) in
    let past : last v + 1 ≤ c.loop-index.index = omega (arith, c.last_index-last.ensures.value) in
    entries_shown g.O.Observer.taking items.save v c.loop-index.index (g.O.Observer.meaning c.loop-index.observer) all past c.loop-index.invariant
