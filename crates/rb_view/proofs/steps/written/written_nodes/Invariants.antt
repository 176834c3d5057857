-- The nodes so far.
use Rattle.std.proofs.Common.{◌≡◌, take}
use Rattle.rb_view.proofs.steps.written.written_nodes.Given as goal

abbrev pub invariant-loop-node : goal.invariant-loop-node
invariant-loop-node g l = l.written.items ≡ take l.node-index l.nodes
