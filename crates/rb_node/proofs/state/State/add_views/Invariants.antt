use Rattle.std.proofs.Common.{◌≡◌, drop}
use Rattle.rb_node.specs.Leading.{with_views}
use Rattle.rb_node.proofs.state.State.add_views.Given as goal

abbrev pub invariant-loop-id : goal.invariant-loop-id
invariant-loop-id g l = with_views l.initial.self l.ids l.active ≡ with_views l.self (drop l.id-index l.ids) l.active
