-- The option stands among what is left.
use Rattle.std.proofs.Common.{◌≡◌, drop}
use Rattle.rb_directive.specs.Table.{with_key}
use Rattle.rb_directive.proofs.table.with_key.Given as goal

abbrev pub invariant-loop-row : goal.invariant-loop-row
invariant-loop-row l = with_key l.options l.key ≡ with_key (drop l.row-index l.options) l.key
