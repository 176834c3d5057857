use Rattle.std.proofs.Common.{◌≡◌, ◌++◌, take}
use Rattle.rb_node.specs.Readying.{others}
use Rattle.rb_node.proofs.advancing.collect_outgoing.Given as goal

abbrev pub invariant-loop-message : goal.invariant-loop-message
invariant-loop-message l = l.sent.items ≡ l.initial.sent.items ++ others l.id (take l.message-index l.waiting)
