-- What joined the line and what is left make up the whole.
use Rattle.std.proofs.Common.{◌≡◌, ◌∷◌, ◌++◌, true, length}
use Rattle.std.specs.List.{flat_map}
use Rattle.rb_texts.specs.Quoted.{escaped, begins_numbered}
use Rattle.rb_texts.proofs.piece.add_quoted.Given as goal

abbrev pub invariant-loop-b : goal.invariant-loop-b
invariant-loop-b l = record {
  next : begins_numbered l.rest ≡ true;
  whole : l.line ++ flat_map escaped l.rest ≡ l.fn.line ++ 34 ∷ flat_map escaped l.fn.bytes;
}

abbrev pub decreases-loop-b : goal.decreases-loop-b
decreases-loop-b l = length l.rest
