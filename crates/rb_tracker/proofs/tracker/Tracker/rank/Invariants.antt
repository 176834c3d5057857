use Rattle.std.proofs.Common.{◌≡◌, ◌≤◌, ◌+◌, ◌-◌, drop, length}
use Rattle.std.specs.Map.{keys_of}
use Rattle.rb_tracker.specs.Sets.{rank}
use Rattle.rb_tracker.proofs.tracker.Tracker.rank.Given as goal

abbrev pub invariant-loop-at : goal.invariant-loop-at
invariant-loop-at l = record {
  within : l.at ≤ length l.self.views;
  rest : rank (keys_of l.self.views) l.id ≡ l.at + rank (drop l.at (keys_of l.self.views)) l.id;
}

abbrev pub decreases-loop-at : goal.decreases-loop-at
decreases-loop-at l = length l.self.views - l.at
