-- What the directives so far leave.
use Rattle.std.proofs.Common.{◌≡◌}
use Rattle.rb_view.specs.SomeSteps.{left_at}
use Rattle.rb_view.proofs.steps.some.left_at.Given as goal

abbrev pub invariant-loop-i : goal.invariant-loop-i
invariant-loop-i g l = l.left ≡ left_at l.session.script l.i
