use Rattle.rb_editor.proofs.CompletingLaws.{ids_of_cluster}
use Rattle.rb_editor.proofs.actions.laws.ids_are_those_of_the_cluster.Goals as goal

pub returns : goal.returns
returns c = ids_of_cluster
