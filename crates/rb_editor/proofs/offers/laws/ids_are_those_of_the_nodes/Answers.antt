use Rattle.rb_editor.proofs.IdLaws.{ids_offered}
use Rattle.rb_editor.proofs.offers.laws.ids_are_those_of_the_nodes.Goals as goal

pub returns : goal.returns
returns c = ids_offered
