-- The messages of the pages so far are there.
use Rattle.std.proofs.Common.{◌≡◌, ◌++◌, take}
use Rattle.rb_raftlog.specs.Packed.{joined}
use Rattle.rb_message.proofs.outbox.push_pages.Given as goal

abbrev pub invariant-loop-k : goal.invariant-loop-k
invariant-loop-k l = l.messages.items ≡ l.initial.messages.items ++ joined (take l.k l.pages)
