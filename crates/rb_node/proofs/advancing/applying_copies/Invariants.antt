use Rattle.std.proofs.Common.{◌≡◌, take}
use Rattle.rb_node.specs.Readying.{applying}
use Rattle.rb_node.proofs.advancing.applying_copies.Given as goal

abbrev pub invariant-loop-k : goal.invariant-loop-k
invariant-loop-k g l = l.copies.items ≡ take l.k (applying l.state)
