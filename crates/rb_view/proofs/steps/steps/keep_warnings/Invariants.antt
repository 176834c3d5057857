-- The rows so far, and those of the warnings that are left.
use Rattle.std.proofs.Common.{◌≡◌, ◌++◌, drop, map}
use Rattle.rb_view.specs.Kept.{texts_of}
use Rattle.rb_view.specs.Steps.{warning_row}
use Rattle.rb_view.proofs.steps.steps.keep_warnings.Given as goal

abbrev pub invariant-loop-i : goal.invariant-loop-i
invariant-loop-i l = l.texts ++ texts_of (map warning_row (drop l.i l.found)) ≡ l.initial.texts ++ texts_of (map warning_row l.found)
