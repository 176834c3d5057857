-- The arrows so far, and those that are left.
use Rattle.std.proofs.Common.{◌≡◌, ◌++◌, drop}
use Rattle.rb_view.specs.Drawn.{without_places}
use Rattle.rb_view.proofs.chart.builder.placed.Given as goal

abbrev pub invariant-loop-arrow : goal.invariant-loop-arrow
invariant-loop-arrow l = without_places l.drawn.items ++ drop l.arrow-index l.arrows ≡ l.arrows
