use Rattle.rb_editor.proofs.IdLaws.{changes_offered}
use Rattle.rb_editor.proofs.offers.laws.changes_are_those_of_the_nodes.Goals as goal

pub returns : goal.returns
returns c = changes_offered
