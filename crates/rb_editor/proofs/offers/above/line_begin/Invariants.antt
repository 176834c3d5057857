-- The line goes up.
use Rattle.std.proofs.Common.{◌≡◌, ◌≤◌}
use Rattle.rb_editor.specs.Above.{line_begin}
use Rattle.rb_editor.proofs.offers.above.line_begin.Given as goal

abbrev pub invariant-loop-start : goal.invariant-loop-start
invariant-loop-start l = record { before : l.start ≤ l.at; same : line_begin l.start l.text ≡ line_begin l.at l.text }

abbrev pub decreases-loop-start : goal.decreases-loop-start
decreases-loop-start l = l.start
