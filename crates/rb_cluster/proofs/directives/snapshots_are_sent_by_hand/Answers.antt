use Rattle.std.proofs.Common.{◌∙◌}
use Rattle.rb_directive.specs.declared.node_command_with_arg.NodeCommandWithArg.TheVariants as withs
use Rattle.rb_directive.specs.declared.requests.Request.TheVariants as requests
use Rattle.rb_cluster.proofs.DirectiveLaws.{done, snapshot_goes_out}
use Rattle.rb_cluster.proofs.directives.snapshots_are_sent_by_hand.Goals as goal

pub returns : goal.returns
returns x = λ c d from to n does at room. done c d (requests.NodeCommandWithArg withs.SendSnapshot from to) does ∙ snapshot_goes_out c from to n at room
