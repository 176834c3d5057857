use Rattle.std.proofs.Common.{◌≡◌, length}
use Rattle.rb_tracker.specs.Windows.{freed}
use Rattle.rb_tracker.proofs.window.Window.free_through.Given as goal

abbrev pub invariant-loop-self : goal.invariant-loop-self
invariant-loop-self l = freed l.self l.index ≡ freed l.initial.self l.index

abbrev pub decreases-loop-self : goal.decreases-loop-self
decreases-loop-self l = length l.self.in_flight
