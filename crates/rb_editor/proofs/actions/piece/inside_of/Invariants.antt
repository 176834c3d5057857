-- Parentheses in the bytes so far.
use Rattle.std.proofs.Common.{◌≡◌, drop, false}
use Rattle.rb_editor.specs.Selections.{inside_of}
use Rattle.rb_editor.proofs.actions.piece.inside_of.Given as goal

abbrev pub invariant-loop-b : goal.invariant-loop-b
invariant-loop-b l = inside_of l.inside (drop l.b-index l.bytes) ≡ inside_of false l.bytes
