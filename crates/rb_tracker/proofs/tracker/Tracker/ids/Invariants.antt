use Rattle.std.proofs.Common.{◌≡◌, [], take}
use Rattle.std.specs.Map.{keys_of}
use Rattle.rb_tracker.specs.Sets.{union}
use Rattle.rb_tracker.proofs.tracker.Tracker.ids.Given as goal

abbrev pub invariant-loop-i : goal.invariant-loop-i
invariant-loop-i l = l.ids ≡ union [] (take l.i (keys_of l.self.views))
