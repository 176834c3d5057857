-- What is added so far, and what is left.
use Rattle.std.proofs.Common.{◌≡◌, ◌++◌, drop}
use Rattle.rb_check.specs.Junit.{warnings_text}
use Rattle.rb_check.proofs.junit.add_warnings.Given as goal

abbrev pub invariant-loop-warning : goal.invariant-loop-warning
invariant-loop-warning l = l.text.items ++ warnings_text l.path (drop l.warning-index l.warnings) ≡ l.initial.text.items ++ warnings_text l.path l.warnings
