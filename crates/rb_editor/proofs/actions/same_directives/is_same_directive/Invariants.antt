-- The lines so far are the same.
use Rattle.std.proofs.Common.{◌≡◌, drop, take}
use Rattle.rb_editor.proofs.actions.same_directives.is_same_directive.Given as goal

abbrev pub invariant-loop-i : goal.invariant-loop-i
invariant-loop-i l = take l.i (drop l.a.from l.one) ≡ take l.i (drop l.b.from l.other)
