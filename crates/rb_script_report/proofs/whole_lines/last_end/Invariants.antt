-- The last end is in the bytes that are left.
use Rattle.std.proofs.Common.{◌≡◌, length}
use Rattle.rb_script_report.specs.WholeLines.{last_end}
use Rattle.rb_script_report.proofs.whole_lines.last_end.Given as goal

abbrev pub invariant-loop-last : goal.invariant-loop-last
invariant-loop-last l = last_end l.front ≡ last_end l.bytes

abbrev pub decreases-loop-last : goal.decreases-loop-last
decreases-loop-last l = length l.front
