use Rattle.rb_laws.proofs.EventLaws.{only_added}
use Rattle.rb_laws.proofs.node.laws.events_are_only_added.Goals as goal

pub returns : goal.returns
returns c = only_added
