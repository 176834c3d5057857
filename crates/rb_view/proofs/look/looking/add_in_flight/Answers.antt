use Rattle.std.proofs.Common.{◌≡◌, ◌++◌, ◌∷◌, List, map, subst}
use Rattle.std.specs.Prelude.{codes, OnOk}
use Rattle.rb_script.specs.Lines.{Line}
use Rattle.rb_view.specs.Looks.{shown}
use Rattle.rb_view.proofs.look.looking.add_in_flight.Goals as goal

pub returns : goal.returns
returns g c =
    subst (λ (answer : List Line). OnOk c.add_section.result (c.add_section.new.lines ≡ c.args.lines.now ++ codes "on their way" ∷ map (shown (codes "drop ")) answer))
    c.in_ok-answer.ensures.answer c.add_section.ensures
