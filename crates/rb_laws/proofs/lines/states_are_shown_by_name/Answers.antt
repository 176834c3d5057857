use Rattle.rb_laws.proofs.LineLaws.{hard_named, log_named, node_named, view_named}
use Rattle.rb_laws.proofs.lines.states_are_shown_by_name.Goals as goal

pub returns-clause-hard : goal.returns-clause-hard
returns-clause-hard c = hard_named

pub returns-clause-log : goal.returns-clause-log
returns-clause-log c = log_named

pub returns-clause-node : goal.returns-clause-node
returns-clause-node c = node_named

pub returns-clause-view : goal.returns-clause-view
returns-clause-view c = view_named
