use Rattle.std.proofs.Common.{◌≡◌, take}
use Rattle.rb_message.proofs.outbox.same_messages.Given as goal

abbrev pub invariant-loop-i : goal.invariant-loop-i
invariant-loop-i l = take l.i l.messages ≡ take l.i l.others
