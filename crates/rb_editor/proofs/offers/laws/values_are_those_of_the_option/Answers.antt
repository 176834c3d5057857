use Rattle.rb_editor.proofs.OfferLaws.{values_offered}
use Rattle.rb_editor.proofs.offers.laws.values_are_those_of_the_option.Goals as goal

pub returns : goal.returns
returns c = values_offered
