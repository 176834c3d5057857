-- What stands before `low` is below the bound, and what stands from `high` on is not.
use Rattle.std.proofs.Common.{ℕ, ◌-◌, ◌<◌, ◌≤◌, length, get_or}
use Rattle.rb_replay.proofs.points.count_below.Given as goal

abbrev pub invariant-loop-low : goal.invariant-loop-low
invariant-loop-low l = record {
  order : l.low ≤ l.high;
  within : l.high ≤ length l.points;
  below : (k : ℕ) → k < l.low → get_or l.points k 0 < l.bound;
  above : l.high < length l.points → l.bound ≤ get_or l.points l.high 0;
}

abbrev pub decreases-loop-low : goal.decreases-loop-low
decreases-loop-low l = l.high - l.low
