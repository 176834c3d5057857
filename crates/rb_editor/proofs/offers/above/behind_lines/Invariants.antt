-- What the lines so far say of those that are left.
use Rattle.std.proofs.Common.{◌≡◌, [], drop}
use Rattle.rb_editor.specs.declared.offers.part.Part.TheVariants.{Lead}
use Rattle.rb_editor.specs.Above.{behind_lines}
use Rattle.rb_editor.proofs.offers.above.behind_lines.Given as goal

abbrev pub invariant-loop-i : goal.invariant-loop-i
invariant-loop-i l = behind_lines l.part l.head.items (drop l.i l.lines) ≡ behind_lines Lead [] l.lines
