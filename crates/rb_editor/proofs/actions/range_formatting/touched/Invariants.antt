-- What the blocks so far say of those that are left.
use Rattle.std.proofs.Common.{◌≡◌, None, drop}
use Rattle.rb_editor.specs.RangeFormatting.{touched}
use Rattle.rb_editor.proofs.actions.range_formatting.touched.Given as goal

abbrev pub invariant-loop-block : goal.invariant-loop-block
invariant-loop-block l = touched l.first l.last l.found (drop l.block-index l.blocks) ≡ touched l.first l.last None l.blocks
