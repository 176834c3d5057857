-- The lines that are left are those of the rest.
use Rattle.std.proofs.Common.{◌≡◌, ◌≤◌, length}
use Rattle.rb_script_report.specs.WholeLines.{after_lines}
use Rattle.rb_script_report.proofs.whole_lines.after_lines.Given as goal

abbrev pub invariant-loop-left : goal.invariant-loop-left
invariant-loop-left l = record { same : after_lines l.left l.rest ≡ after_lines l.count l.bytes; shorter : length l.rest ≤ length l.bytes }

abbrev pub decreases-loop-left : goal.decreases-loop-left
decreases-loop-left l = l.left
