-- The lines so far, and those that are to come.
use Rattle.std.proofs.Common.{◌≡◌, ◌++◌, drop}
use Rattle.rb_script_report.specs.WholeLines.{with_ends}
use Rattle.rb_script_report.proofs.splice.push_lines.Given as goal

abbrev pub invariant-loop-i : goal.invariant-loop-i
invariant-loop-i l = l.made.items ++ with_ends l.end (drop l.i l.lines) ≡ l.fn.made.items ++ with_ends l.end l.lines
