use Rattle.rb_editor.proofs.OfferLaws.{keys_offered}
use Rattle.rb_editor.proofs.offers.laws.keys_are_those_of_the_table.Goals as goal

pub returns : goal.returns
returns c = keys_offered
