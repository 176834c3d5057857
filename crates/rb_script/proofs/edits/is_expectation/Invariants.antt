-- The lines so far passed.
use Rattle.std.proofs.Common.{◌≡◌, true, take}
use Rattle.std.specs.List.{list_all}
use Rattle.rb_script.specs.Edits.{is_text_line}
use Rattle.rb_script.proofs.edits.is_expectation.Given as goal

abbrev pub invariant-loop-i : goal.invariant-loop-i
invariant-loop-i l = list_all is_text_line (take l.i l.lines) ≡ true
