use Rattle.std.proofs.Common.{◌∙◌, [], ◌∷◌}
use Rattle.rb_directive.specs.declared.node_command.NodeCommand.TheVariants as commands
use Rattle.rb_directive.specs.declared.node_command_with_arg.NodeCommandWithArg.TheVariants as withs
use Rattle.rb_directive.specs.declared.requests.Request.TheVariants as requests
use Rattle.rb_message.specs.declared.kind.MessageKind.TheVariants as kinds
use Rattle.rb_raftlog.specs.declared.entry.Body.TheVariants.{Payload, Change}
use Rattle.rb_node.specs.Calls.{called, reported}
use Rattle.rb_node.specs.Node.{with_timeout}
use Rattle.rb_node.specs.Restarting.{node_restarted}
use Rattle.rb_directive.specs.Changes.{input_words}
use Rattle.rb_machine.specs.Acts.{step_by}
use Rattle.rb_machine.specs.Changes.{words_of}
use Rattle.rb_cluster.proofs.DirectiveLaws.{done, acts, changes, compacts}
use Rattle.rb_cluster.proofs.directives.directives_call_their_nodes.Goals as goal

pub returns-clause-campaign : goal.returns-clause-campaign
returns-clause-campaign x = λ c d id n does at. done c d (requests.NodeCommand commands.Campaign id) does ∙ acts c id n (step_by commands.Campaign) at

pub returns-clause-heartbeat : goal.returns-clause-heartbeat
returns-clause-heartbeat x = λ c d id n does at. done c d (requests.NodeCommand commands.TickHeartbeat id) does ∙ acts c id n (step_by commands.TickHeartbeat) at

pub returns-clause-election : goal.returns-clause-election
returns-clause-election x = λ c d id n does at. done c d (requests.NodeCommand commands.TickElection id) does ∙ acts c id n (step_by commands.TickElection) at

pub returns-clause-forget : goal.returns-clause-forget
returns-clause-forget x = λ c d id n does at. done c d (requests.NodeCommand commands.ForgetLeader id) does ∙ acts c id n (step_by commands.ForgetLeader) at

pub returns-clause-propose : goal.returns-clause-propose
returns-clause-propose x = λ c d id payload n does at. done c d (requests.Propose id payload) does ∙ acts c id n (λ t. called t (kinds.Proposal (Payload payload))) at

pub returns-clause-timeout : goal.returns-clause-timeout
returns-clause-timeout x = λ c d id ticks n does at. done c d (requests.NodeCommandWithArg withs.SetRandomizedElectionTimeout id ticks) does ∙ changes c id n (λ m. with_timeout m ticks) at

pub returns-clause-transfer : goal.returns-clause-transfer
returns-clause-transfer x = λ c d from to n does at. done c d (requests.NodeCommandWithArg withs.TransferLeadership from to) does ∙ acts c from n (λ t. called t (kinds.TransferLeader to)) at

pub returns-clause-unreachable : goal.returns-clause-unreachable
returns-clause-unreachable x = λ c d id peer n does at. done c d (requests.NodeCommandWithArg withs.ReportUnreachable id peer) does ∙ changes c id n (λ m. reported m peer) at

pub returns-clause-change : goal.returns-clause-change
returns-clause-change x = λ c d asked n does at. done c d (requests.ProposeConfChange asked) does ∙ acts c asked.id n (λ t. called t (kinds.Proposal (Change asked.transition (words_of (input_words asked.inputs))))) at

pub returns-clause-compact : goal.returns-clause-compact
returns-clause-compact x = λ c d id index n does at. done c d (requests.NodeCommandWithArg withs.Compact id index) does ∙ compacts c id index n at

pub returns-clause-restart : goal.returns-clause-restart
returns-clause-restart x = λ c d id n does at. done c d (requests.Restart (id ∷ [])) does ∙ acts c id n node_restarted at
