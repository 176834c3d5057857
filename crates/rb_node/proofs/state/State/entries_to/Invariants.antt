use Rattle.std.proofs.Common.{◌≡◌, take}
use Rattle.rb_node.specs.Compacting.{entries_to}
use Rattle.rb_node.proofs.state.State.entries_to.Given as goal

abbrev pub invariant-loop-k : goal.invariant-loop-k
invariant-loop-k g l = l.entries.items ≡ take l.k (entries_to l.self l.index)
