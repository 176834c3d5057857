-- None so far is.
use Rattle.std.proofs.Common.{◌≡◌, drop}
use Rattle.rb_script_report.specs.Refusing.{has_long_line}
use Rattle.rb_script_report.proofs.written.has_long_line.Given as goal

abbrev pub invariant-loop-i : goal.invariant-loop-i
invariant-loop-i l = has_long_line (drop l.i l.lines) ≡ has_long_line l.lines
