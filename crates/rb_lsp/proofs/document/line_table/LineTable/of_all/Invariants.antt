-- Here an editor's line begins. The lines that begin up to here stand in the table; the others begin behind it.
use Rattle.std.proofs.Common.{◌≡◌, ◌-◌, ◌≤◌, length}
use Rattle.rb_lsp.specs.Places.{position_of}
use Rattle.rb_lsp.proofs.TableLaws.{StartsStand}
use Rattle.rb_lsp.proofs.document.line_table.LineTable.of_all.Given as goal

abbrev pub invariant-loop-next : goal.invariant-loop-next
invariant-loop-next l = record {
  within : l.at ≤ length l.text;
  few : l.line ≤ l.at;
  begins : position_of l.encoding l.at l.text ≡ record { line = l.line; character = 0 };
  stand : StartsStand l.encoding l.text l.at l.starts.items;
}

abbrev pub decreases-loop-next : goal.decreases-loop-next
decreases-loop-next l = length l.text - l.at
