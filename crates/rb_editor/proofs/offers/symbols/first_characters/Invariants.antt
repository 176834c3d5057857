-- The characters so far, and those that may follow.
use Rattle.std.proofs.Common.{◌≡◌, ◌++◌, take, drop}
use Rattle.rb_editor.specs.Symbols.{first_characters}
use Rattle.rb_editor.proofs.offers.symbols.first_characters.Given as goal

abbrev pub invariant-loop-at : goal.invariant-loop-at
invariant-loop-at l = take l.at l.bytes ++ first_characters l.left (drop l.at l.bytes) ≡ first_characters l.most l.bytes
