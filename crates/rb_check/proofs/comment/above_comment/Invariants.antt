-- The lines below are comments.
use Rattle.std.proofs.Common.{◌≡◌, ◌≤◌}
use Rattle.rb_check.specs.Reviews.{above_comment}
use Rattle.rb_check.proofs.comment.above_comment.Given as goal

abbrev pub invariant-loop-above : goal.invariant-loop-above
invariant-loop-above l = record { same : above_comment l.text l.above ≡ above_comment l.text l.count; within : l.above ≤ l.count }

abbrev pub decreases-loop-above : goal.decreases-loop-above
decreases-loop-above l = l.above
