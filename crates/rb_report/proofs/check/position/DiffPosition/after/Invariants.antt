-- The position is after the lines so far.
use Rattle.std.proofs.Common.{◌≡◌, ◌+◌, ◌<◌, ◌^◌, drop, length}
use Rattle.rb_report.specs.LineRanges.{in_range}
use Rattle.rb_report.specs.Steps.{counted, after_lines}
use Rattle.rb_report.proofs.check.position.DiffPosition.after.Given as goal

abbrev pub invariant-loop-i : goal.invariant-loop-i
invariant-loop-i l = record {
  all : after_lines l.side l.position (drop l.i (in_range l.lines)) ≡ after_lines l.side l.fn.self (in_range l.lines);
  room : l.position.at + counted l.side (length (drop l.i (in_range l.lines))) < 2 ^ 64;
}
