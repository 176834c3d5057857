-- The row stands among what is left.
use Rattle.std.proofs.Common.{◌≡◌, drop}
use Rattle.rb_directive.specs.Table.{row_in}
use Rattle.rb_directive.proofs.table.row_in.Given as goal

abbrev pub invariant-loop-row : goal.invariant-loop-row
invariant-loop-row l = row_in l.rows l.name ≡ row_in (drop l.row-index l.rows) l.name
