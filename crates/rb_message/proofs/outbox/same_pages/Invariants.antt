-- The pages so far are the same.
use Rattle.std.proofs.Common.{◌≡◌, take}
use Rattle.rb_message.proofs.outbox.same_pages.Given as goal

abbrev pub invariant-loop-k : goal.invariant-loop-k
invariant-loop-k l = take l.k l.pages ≡ take l.k l.others
