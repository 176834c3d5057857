-- The column, as far as the line was looked at.
use Rattle.std.proofs.Common.{◌≡◌, ◌+◌, drop}
use Rattle.rb_lsp.specs.Places.{column}
use Rattle.rb_lsp.proofs.document.position.column.Given as goal

abbrev pub invariant-loop-at : goal.invariant-loop-at
invariant-loop-at l = column l.encoding l.character l.line ≡ l.at + column l.encoding l.left (drop l.at l.line)
