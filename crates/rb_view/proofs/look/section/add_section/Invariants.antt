use Rattle.std.specs.Prelude.{◌≡◌, ◌∷◌, ◌++◌, map, take}
use Rattle.rb_view.specs.Looks.{shown}
use Rattle.rb_view.proofs.look.section.add_section.Given as goal

abbrev pub invariant-loop-i : goal.invariant-loop-i
invariant-loop-i l = record { so_far : l.lines ≡ l.fn.lines ++ (l.title ∷ map (shown l.word) (take l.i l.answer)) }
