use Rattle.std.proofs.Common.{◌≡◌, drop}
use Rattle.rb_node.specs.Ticking.{heartbeat_sent_to_each}
use Rattle.rb_node.proofs.ticking.send_due_heartbeats.Given as goal

abbrev pub invariant-loop-id : goal.invariant-loop-id
invariant-loop-id g l = heartbeat_sent_to_each l.initial.state l.id-items ≡ heartbeat_sent_to_each l.state (drop l.id-index l.id-items)
