-- The lines so far are copied.
use Rattle.std.proofs.Common.{◌≡◌, ◌≤◌}
use Rattle.rb_script.specs.Flat.{between}
use Rattle.rb_script.proofs.flat.FlatLines.copy_between.Given as goal

abbrev pub invariant-loop-i : goal.invariant-loop-i
invariant-loop-i l = record { order : l.from ≤ l.i; within : l.i ≤ l.to; copied : l.copy ≡ between l.from l.i l.self }
