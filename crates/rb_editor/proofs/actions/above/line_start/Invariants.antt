-- The lines that are left above.
use Rattle.std.proofs.Common.{◌≡◌, ◌≤◌, ◌+◌, drop, length}
use Rattle.rb_lsp.specs.Tables.{feed_start}
use Rattle.rb_editor.proofs.actions.above.line_start.Given as goal

abbrev pub invariant-loop-at : goal.invariant-loop-at
invariant-loop-at l = record {
  start : l.at + feed_start l.left (drop l.at l.text) ≡ feed_start l.line l.text;
  within : l.at ≤ length l.text;
}
