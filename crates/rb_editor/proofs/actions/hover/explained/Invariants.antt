-- The lines so far, and those that are left.
use Rattle.std.proofs.Common.{◌≡◌, ◌++◌, drop}
use Rattle.rb_editor.specs.Hovers.{explained}
use Rattle.rb_editor.proofs.actions.hover.explained.Given as goal

abbrev pub invariant-loop-i : goal.invariant-loop-i
invariant-loop-i l = l.out.items ++ explained l.reasons l.i (drop l.i l.output) ≡ explained l.reasons 0 l.output
