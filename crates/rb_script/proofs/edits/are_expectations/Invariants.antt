-- The outputs so far passed.
use Rattle.std.proofs.Common.{◌≡◌, true, take}
use Rattle.std.specs.List.{list_all}
use Rattle.rb_script.specs.Edits.{is_expectation}
use Rattle.rb_script.proofs.edits.are_expectations.Given as goal

abbrev pub invariant-loop-i : goal.invariant-loop-i
invariant-loop-i l = list_all is_expectation (take l.i l.outputs) ≡ true
