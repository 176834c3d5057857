-- The copies so far.
use Rattle.std.proofs.Common.{◌≡◌, ◌++◌, take}
use Rattle.rb_raftlog.proofs.try_copy.push_copies.Given as goal

abbrev pub invariant-loop-item : goal.invariant-loop-item
invariant-loop-item g l = l.copies.items ≡ l.initial.copies.items ++ take l.item-index l.items
