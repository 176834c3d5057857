-- What a call makes of a node. (This project's.)
use Rattle.rb_message.specs.declared.kind.MessageKind.TheVariants as kinds
use Rattle.rb_raftlog.specs.declared.entry.Body.TheVariants as bodies
use Rattle.rb_node.specs.Node.{NodeStep}
use Rattle.rb_node.specs.Calls.{called}
use Rattle.rb_node.specs.Restarting.{node_restarted}
use Rattle.rb_node.specs.Step.{stepped}
use Rattle.rb_machine.specs.Acts.{step_by}
use Rattle.rb_cluster.specs.declared.acts.NodeCall.{NodeCall}
use Rattle.rb_cluster.specs.declared.acts.NodeCall.TheVariants as calls

abbrev pub step_of : NodeCall → NodeStep → NodeStep
step_of (calls.Command what) = step_by what
step_of (calls.Propose payload) = λ t. called t (kinds.Proposal (bodies.Payload payload))
step_of (calls.ProposeChange transition words) = λ t. called t (kinds.Proposal (bodies.Change transition words))
step_of (calls.Transfer to) = λ t. called t (kinds.TransferLeader to)
step_of calls.Restart = node_restarted
step_of (calls.Step message) = λ t. stepped t message.now
