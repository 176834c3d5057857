use Rattle.std.proofs.Common.{◌≡◌, drop}
use Rattle.rb_node.specs.Changing.{without_views}
use Rattle.rb_node.proofs.state.State.remove_views.Given as goal

abbrev pub invariant-loop-id : goal.invariant-loop-id
invariant-loop-id g l = without_views l.initial.self l.ids ≡ without_views l.self (drop l.id-index l.ids)
