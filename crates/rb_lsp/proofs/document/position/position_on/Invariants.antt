-- The position of what was looked at.
use Rattle.std.proofs.Common.{◌≡◌, ◌*◌, ◌≤◌}
use Rattle.rb_lsp.specs.Places.{position_of}
use Rattle.rb_lsp.proofs.document.position.position_on.Given as goal

abbrev pub invariant-loop-at : goal.invariant-loop-at
invariant-loop-at l = record {
  value : l.position ≡ position_of l.encoding l.at l.text;
  line : l.position.line ≤ l.at;
  character : l.position.character ≤ 4 * l.at;
}
