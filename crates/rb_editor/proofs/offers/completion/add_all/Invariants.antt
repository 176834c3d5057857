-- What went out so far, and what is left.
use Rattle.std.proofs.Common.{◌≡◌, ◌++◌, [], drop}
use Rattle.rb_editor.specs.Completion.{item_text}
use Rattle.rb_editor.specs.Texts.{listed}
use Rattle.rb_editor.proofs.offers.completion.add_all.Given as goal

abbrev pub invariant-loop-offer : goal.invariant-loop-offer
invariant-loop-offer l =
    l.out.items ++ listed (item_text l.place) l.lead (drop l.offer-index l.list) ≡ l.initial.out.items ++ listed (item_text l.place) [] l.list
