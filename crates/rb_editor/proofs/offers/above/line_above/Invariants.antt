-- The line goes up.
use Rattle.std.proofs.Common.{◌≡◌, ◌-◌, ◌≤◌}
use Rattle.rb_editor.specs.Above.{line_above}
use Rattle.rb_editor.proofs.offers.above.line_above.Given as goal

abbrev pub invariant-loop : goal.invariant-loop
invariant-loop l = record { before : l.place ≤ l.at; same : line_above (l.lines - l.counter) l.place l.text ≡ line_above l.lines l.at l.text }
