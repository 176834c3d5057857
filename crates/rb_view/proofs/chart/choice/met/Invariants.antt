-- It is none of those so far, and so many are still skipped.
use Rattle.std.proofs.Common.{◌≡◌, drop}
use Rattle.rb_machine.specs.Pending.{is_meant}
use Rattle.rb_view.specs.InFlight.{met_from}
use Rattle.rb_view.proofs.chart.choice.met.Given as goal

abbrev pub invariant-loop-at : goal.invariant-loop-at
invariant-loop-at l = met_from (is_meant l.id l.choice) l.choice.skip 0 l.messages ≡ met_from (is_meant l.id l.choice) l.skip l.at (drop l.at l.messages)
