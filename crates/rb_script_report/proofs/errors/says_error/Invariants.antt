-- The lines below are none that says so, and none that hides one.
use Rattle.std.proofs.Common.{◌≡◌, ◌≤◌, length}
use Rattle.rb_script_report.specs.Errors.{marked, says_error}
use Rattle.rb_script_report.proofs.errors.says_error.Given as goal

abbrev pub invariant-loop-above : goal.invariant-loop-above
invariant-loop-above l = record { same : marked l.text l.above ≡ says_error l.text l.line; within : l.above ≤ length l.text }

abbrev pub decreases-loop-above : goal.decreases-loop-above
decreases-loop-above l = l.above
