use Rattle.std.proofs.Common.{◌≡◌, ℕ, List, length}
use Rattle.rb_script.specs.Parsed.{KeepsValues}
use Rattle.rb_script.specs.Heads.{list_at}
use Rattle.rb_script.proofs.ArgumentLaws.{with_values}
use Rattle.rb_script.proofs.tokens.list.Given as goal

abbrev pub invariant-loop-b : goal.invariant-loop-b
invariant-loop-b l =
    (so_far : List (List ℕ)) × KeepsValues l.initial.at.head l.found so_far × (with_values so_far (list_at l.at.left) ≡ list_at l.initial.at.left) × (l.at.head ≡ l.initial.at.head)

abbrev pub decreases-loop-b : goal.decreases-loop-b
decreases-loop-b l = length l.at.left
