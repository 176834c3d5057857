-- It is one of those that are left, or else the one that is found so far.
use Rattle.std.proofs.Common.{◌≡◌, ◌<◌, drop, length}
use Rattle.std.specs.Prelude.{IfSome}
use Rattle.std.specs.Option.{option_or}
use Rattle.rb_view.specs.InFlight.{last_alike}
use Rattle.rb_view.proofs.chart.in_flight.last_alike.Given as goal

abbrev pub invariant-loop-at : goal.invariant-loop-at
invariant-loop-at l = record {
  last : option_or (last_alike l.message l.at (drop l.at l.messages)) l.found ≡ last_alike l.message 0 l.messages;
  within : IfSome l.found (λ k. k < length l.messages);
}
