-- The ids so far joined the line, each after a comma.
use Rattle.std.proofs.Common.{◌≡◌, ◌++◌, take}
use Rattle.std.specs.List.{flat_map}
use Rattle.rb_texts.proofs.PieceLaws.{comma_before}
use Rattle.rb_texts.proofs.piece.add_ids.Given as goal

abbrev pub invariant-loop-id : goal.invariant-loop-id
invariant-loop-id l = l.line ≡ l.initial.line ++ flat_map comma_before (take l.id-index l.rest)
