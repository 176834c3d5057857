use Rattle.rb_view.proofs.ChangeLaws.{node_most, state_few, state_still, states_still, view_still}
use Rattle.rb_view.proofs.steps.laws.changes_grow_with_what_differs.Goals as goal

pub returns-clause-rows : goal.returns-clause-rows
returns-clause-rows c = state_few

pub returns-clause-node : goal.returns-clause-node
returns-clause-node c = state_still

pub returns-clause-nodes : goal.returns-clause-nodes
returns-clause-nodes c = states_still

pub returns-clause-view : goal.returns-clause-view
returns-clause-view c = view_still

pub returns-clause-most : goal.returns-clause-most
returns-clause-most c = node_most
