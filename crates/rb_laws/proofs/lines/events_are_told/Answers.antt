use Rattle.rb_laws.proofs.LineLaws.{node_told, event_told}
use Rattle.rb_laws.proofs.lines.events_are_told.Goals as goal

pub returns-clause-node : goal.returns-clause-node
returns-clause-node c = node_told

pub returns-clause-what : goal.returns-clause-what
returns-clause-what c = event_told
