-- The lines of the head that are passed, and those that are to come.
use Rattle.std.proofs.Common.{◌≡◌, ◌+◌, length, drop}
use Rattle.rb_script.specs.Runs.{head_of}
use Rattle.rb_script_report.proofs.splice.head_len.Given as goal

abbrev pub invariant-loop-i : goal.invariant-loop-i
invariant-loop-i l = l.i + length (head_of (drop l.i l.text)) ≡ l.at + length (head_of (drop l.at l.text))
