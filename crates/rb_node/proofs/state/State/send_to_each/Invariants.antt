use Rattle.std.proofs.Common.{◌≡◌, drop}
use Rattle.rb_node.specs.Sends.{sent_to_each}
use Rattle.rb_node.proofs.state.State.send_to_each.Given as goal

abbrev pub invariant-loop-id : goal.invariant-loop-id
invariant-loop-id g l = sent_to_each l.initial.self l.ids ≡ sent_to_each l.self (drop l.id-index l.ids)
