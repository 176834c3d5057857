-- What was looked at is the same.
use Rattle.std.proofs.Common.{◌≡◌, ◌+◌, drop, reverse}
use Rattle.rb_lsp.specs.Edits.{common, common_end}
use Rattle.rb_lsp.proofs.document.edit.common_end.Given as goal

abbrev pub invariant-loop-i : goal.invariant-loop-i
invariant-loop-i l = l.i + common (drop l.i (reverse (drop l.front l.old))) (drop l.i (reverse (drop l.front l.new))) ≡ common_end l.front l.old l.new
