-- The message stands behind those that were looked at.
use Rattle.std.proofs.Common.{◌≡◌, ◌+◌, drop}
use Rattle.rb_view.specs.Mail.{place_of}
use Rattle.rb_view.proofs.trace.mail.place_in.Given as goal

abbrev pub invariant-loop-i : goal.invariant-loop-i
invariant-loop-i l = l.i + place_of l.text (drop l.i l.on_way) ≡ place_of l.text l.on_way
