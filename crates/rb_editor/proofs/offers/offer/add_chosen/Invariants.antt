-- The values so far, and those that are left.
use Rattle.std.proofs.Common.{◌≡◌, ◌++◌, drop, map}
use Rattle.std.specs.Prelude.{option_map}
use Rattle.rb_editor.specs.Offers.{chosen}
use Rattle.rb_editor.proofs.offers.offer.add_chosen.Given as goal

abbrev pub invariant-loop-choice : goal.invariant-loop-choice
invariant-loop-choice l =
    l.list.items ++ chosen l.wanted (option_map (λ l. l.now) l.line) (map (λ c. c.now) (drop l.choice-index l.choices)) ≡ l.initial.list.items ++ chosen l.wanted (option_map (λ l. l.now) l.line) (map (λ c. c.now) l.choices)
