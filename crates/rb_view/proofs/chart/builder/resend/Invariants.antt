-- The arrows so far, and the messages that are left.
use Rattle.std.proofs.Common.{◌≡◌, drop}
use Rattle.std.specs.Prelude.{fold}
use Rattle.rb_view.specs.Arrows.{resent}
use Rattle.rb_view.proofs.chart.builder.resend.Given as goal

abbrev pub invariant-loop-message : goal.invariant-loop-message
invariant-loop-message l = fold resent l.arrows (drop l.message-index l.messages) ≡ fold resent l.initial.arrows l.messages
