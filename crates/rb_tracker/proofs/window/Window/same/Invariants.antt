use Rattle.std.proofs.Common.{◌≡◌, take}
use Rattle.rb_tracker.proofs.window.Window.same.Given as goal

abbrev pub invariant-loop-place : goal.invariant-loop-place
invariant-loop-place l = take l.place l.self.in_flight ≡ take l.place l.other.in_flight
