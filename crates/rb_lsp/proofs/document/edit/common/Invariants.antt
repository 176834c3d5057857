-- What was looked at is the same.
use Rattle.std.proofs.Common.{◌≡◌, ◌+◌, drop}
use Rattle.rb_lsp.specs.Edits.{common}
use Rattle.rb_lsp.proofs.document.edit.common.Given as goal

abbrev pub invariant-loop-i : goal.invariant-loop-i
invariant-loop-i l = l.i + common (drop l.i l.old) (drop l.i l.new) ≡ common l.old l.new
