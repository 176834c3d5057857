-- Where the line begins, as far as the text was looked at.
use Rattle.std.proofs.Common.{◌≡◌, ◌+◌, ◌-◌, ◌≤◌, length, drop}
use Rattle.rb_lsp.specs.Places.{line_start}
use Rattle.rb_lsp.proofs.document.position.line_start.Given as goal

abbrev pub invariant-loop-left : goal.invariant-loop-left
invariant-loop-left l = record {
  within : l.at ≤ length l.text;
  value : line_start l.line l.text ≡ l.at + line_start l.left (drop l.at l.text);
}

abbrev pub decreases-loop-left : goal.decreases-loop-left
decreases-loop-left l = length l.text - l.at
