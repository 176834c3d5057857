use Rattle.rb_editor.proofs.OfferLaws.{names_offered}
use Rattle.rb_editor.proofs.offers.laws.names_are_those_of_the_table.Goals as goal

pub returns : goal.returns
returns c = names_offered
