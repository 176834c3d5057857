use Rattle.std.proofs.Common.{◌≡◌, ◌++◌, drop}
use Rattle.rb_node.specs.Changing.{missing}
use Rattle.rb_node.proofs.state.State.missing.Given as goal

abbrev pub invariant-loop-id : goal.invariant-loop-id
invariant-loop-id g l = missing l.self.tracker.views l.ids ≡ l.found.items ++ missing l.self.tracker.views (drop l.id-index l.ids)
