-- None so far is the one.
use Rattle.std.proofs.Common.{◌≡◌, drop}
use Rattle.rb_script_report.specs.Refusing.{bad_head}
use Rattle.rb_script_report.proofs.written.bad_head.Given as goal

abbrev pub invariant-loop-i : goal.invariant-loop-i
invariant-loop-i l = bad_head (drop l.i l.heads) (drop l.i l.expected) ≡ bad_head l.heads l.expected
