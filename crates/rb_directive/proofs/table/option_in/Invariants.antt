-- The option stands among what is left.
use Rattle.std.proofs.Common.{◌≡◌, drop}
use Rattle.rb_directive.specs.Table.{option_in}
use Rattle.rb_directive.proofs.table.option_in.Given as goal

abbrev pub invariant-loop-row : goal.invariant-loop-row
invariant-loop-row l = option_in l.options l.name l.key ≡ option_in (drop l.row-index l.options) l.name l.key
