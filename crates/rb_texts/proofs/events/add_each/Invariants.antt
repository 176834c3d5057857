-- The pieces so far joined the line.
use Rattle.std.proofs.Common.{◌≡◌, ◌++◌, take}
use Rattle.std.specs.List.{flat_map}
use Rattle.rb_texts.specs.Events.{given_text}
use Rattle.rb_texts.proofs.events.add_each.Given as goal

abbrev pub invariant-loop-piece : goal.invariant-loop-piece
invariant-loop-piece l = l.line ≡ l.initial.line ++ flat_map given_text (take l.piece-index l.pieces)
