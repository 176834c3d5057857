use Rattle.std.proofs.Common.{◌≡◌, ◌+◌, ℕ, drop, slice_get, Some, ◌∙◌, ap, arith, rules}
use Rattle.rb_node.specs.Readying.{applying}
use Rattle.rb_texts.specs.Items as items
use Rattle.rb_machine.specs.Entries.{entry_items}
use Rattle.std.specs.Prelude.{fold}
use Rattle.rb_cluster.proofs.ViewLaws.{entry_next}
use Rattle.rb_cluster.proofs.readies.show_applied.Goals as goal

pub loop-k-preserved : goal.loop-k-preserved
loop-k-preserved g c =
    let es = applying c.args.node.now in
    let i = c.state.inside.applied + 1 + c.loop-k.k in
    let found : slice_get (applying c.args.node.now) c.loop-k.k ≡ Some c.apply.result.now = search rules in
    let next : c.state.inside.applied + 1 + (c.loop-k.k + 1) ≡ c.state.inside.applied + 1 + c.loop-k.k + 1 = omega arith in
    ap (λ (n : ℕ). fold g.O.Observer.taking (g.O.Observer.meaning c.observe.new.self) (entry_items items.apply n (drop (c.loop-k.k + 1) es))) next
    ∙ entry_next g.O.Observer.taking items.apply es c.loop-k.k i c.apply.result.now (g.O.Observer.meaning c.loop-k.observer) (g.O.Observer.meaning c.observe.new.self) _ found c.in_ok-observe.ensures c.loop-k.invariant
