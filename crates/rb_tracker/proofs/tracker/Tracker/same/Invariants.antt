use Rattle.std.proofs.Common.{◌≡◌, take}
use Rattle.rb_tracker.proofs.tracker.Tracker.same.Given as goal

abbrev pub invariant-loop-i : goal.invariant-loop-i
invariant-loop-i l = take l.i l.self.views ≡ take l.i l.other.views
