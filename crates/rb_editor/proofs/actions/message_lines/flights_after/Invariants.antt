-- What the lines so far say of those that are left.
use Rattle.std.proofs.Common.{◌≡◌, ◌≤◌, ◌-◌, drop}
use Rattle.rb_editor.specs.Messages.{NO_FLIGHTS, flights_after}
use Rattle.rb_editor.proofs.actions.message_lines.flights_after.Given as goal

abbrev pub invariant-loop-i : goal.invariant-loop-i
invariant-loop-i l = record {
  same : flights_after l.message l.counted (l.count - l.i) (drop l.i l.lines) ≡ flights_after l.message NO_FLIGHTS l.count l.lines;
  few : l.counted.sent ≤ l.i;
  ended : l.counted.ended ≤ l.counted.sent;
}
