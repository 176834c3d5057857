-- The bytes past these end no line.
use Rattle.std.proofs.Common.{◌≡◌, ◌≤◌}
use Rattle.rb_check.specs.Commands.{last_end}
use Rattle.rb_check.proofs.command.last_end.Given as goal

abbrev pub invariant-loop-kept : goal.invariant-loop-kept
invariant-loop-kept l = record { same : last_end l.diff l.kept ≡ last_end l.diff l.n; within : l.kept ≤ l.n }

abbrev pub decreases-loop-kept : goal.decreases-loop-kept
decreases-loop-kept l = l.kept
