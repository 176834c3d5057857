-- What went out so far, and what is left.
use Rattle.std.proofs.Common.{◌≡◌, ◌++◌, [], drop}
use Rattle.rb_editor.specs.Selections.{fronts}
use Rattle.rb_editor.proofs.actions.selection_range.add_fronts.Given as goal

abbrev pub invariant-loop-span : goal.invariant-loop-span
invariant-loop-span l = l.out.items ++ fronts l.encoding l.text l.lead (drop l.span-index l.spans) ≡ l.initial.out.items ++ fronts l.encoding l.text [] l.spans
