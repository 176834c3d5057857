-- What is added so far, and what is left.
use Rattle.std.proofs.Common.{◌≡◌, ◌++◌, drop}
use Rattle.rb_check.specs.Objects.{strings_from}
use Rattle.rb_check.proofs.object.add_strings.Given as goal

abbrev pub invariant-loop-i : goal.invariant-loop-i
invariant-loop-i l = l.text.items ++ strings_from l.i (drop l.i l.lines) ≡ l.initial.text.items ++ strings_from 0 l.lines
