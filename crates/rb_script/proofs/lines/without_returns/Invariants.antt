use Rattle.std.proofs.Common.{◌≡◌, ◌≤◌, length}
use Rattle.rb_script.specs.Lines.{without_returns}
use Rattle.rb_script.proofs.lines.without_returns.Given as goal

abbrev pub invariant-loop-last : goal.invariant-loop-last
invariant-loop-last l = record { same : without_returns l.front ≡ without_returns l.line; shorter : length l.front ≤ length l.line }

abbrev pub decreases-loop-last : goal.decreases-loop-last
decreases-loop-last l = length l.front
