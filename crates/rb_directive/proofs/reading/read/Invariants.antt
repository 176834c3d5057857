-- What is given so far, and the arguments that are left.
use Rattle.std.proofs.Common.{◌≡◌, drop, Ok}
use Rattle.rb_script.specs.Tokens.{plain}
use Rattle.rb_directive.specs.Arguments.{nothing}
use Rattle.rb_directive.specs.Reading.{with_arguments}
use Rattle.rb_directive.proofs.reading.read.Given as goal

abbrev pub invariant-loop-place : goal.invariant-loop-place
invariant-loop-place l = with_arguments l.row (plain l.directive).args (Ok nothing) ≡ with_arguments l.row (drop l.place (plain l.directive).args) (Ok l.given)
