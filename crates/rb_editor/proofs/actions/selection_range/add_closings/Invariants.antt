-- The ends so far, and those that are left.
use Rattle.std.proofs.Common.{◌≡◌, ◌++◌, drop}
use Rattle.rb_editor.specs.Selections.{closings}
use Rattle.rb_editor.proofs.actions.selection_range.add_closings.Given as goal

abbrev pub invariant-loop-closing : goal.invariant-loop-closing
invariant-loop-closing l = l.out.items ++ closings (drop l._closing l.spans) ≡ l.initial.out.items ++ closings l.spans
