-- What the lines so far say of those that are left.
use Rattle.std.proofs.Common.{◌≡◌, ◌≤◌, drop}
use Rattle.rb_editor.specs.declared.offers.part.Part.TheVariants.{Lead}
use Rattle.rb_editor.specs.Above.{begun_lines}
use Rattle.rb_editor.proofs.offers.above.begun_lines.Given as goal

abbrev pub invariant-loop-i : goal.invariant-loop-i
invariant-loop-i l = record {
  same : begun_lines l.part l.count (drop l.i l.lines) ≡ begun_lines Lead 0 l.lines;
  few : l.count ≤ l.i;
}
