-- It is none of those so far.
use Rattle.std.proofs.Common.{◌≡◌, drop}
use Rattle.rb_view.specs.NewRows.{has_text}
use Rattle.rb_view.proofs.steps.fresh.has_text.Given as goal

abbrev pub invariant-loop-i : goal.invariant-loop-i
invariant-loop-i l = has_text l.olds l.text ≡ has_text (drop l.i l.olds) l.text
