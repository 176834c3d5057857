-- What the lines so far say of those that are left.
use Rattle.std.proofs.Common.{◌≡◌, drop}
use Rattle.rb_editor.specs.Messages.{event_line}
use Rattle.rb_editor.proofs.actions.message_lines.event_line.Given as goal

abbrev pub invariant-loop-i : goal.invariant-loop-i
invariant-loop-i l = event_line l.event l.message l.left l.i (drop l.i l.lines) ≡ event_line l.event l.message l.count l.from (drop l.from l.lines)
