-- The spans that were taken so far, and those that are left.
use Rattle.std.proofs.Common.{◌≡◌, ◌++◌, drop, None}
use Rattle.rb_editor.specs.Selections.{nested}
use Rattle.rb_editor.proofs.actions.selection_range.nested.Given as goal

abbrev pub invariant-loop-span : goal.invariant-loop-span
invariant-loop-span l = l.list.items ++ nested l.last (drop l.span-index l.spans) ≡ nested None l.spans
