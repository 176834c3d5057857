use Rattle.std.proofs.Common.{◌∙◌}
use Rattle.rb_directive.specs.declared.requests.Request.TheVariants as requests
use Rattle.rb_cluster.proofs.DirectiveLaws.{done, delivers_msgs, drops_msgs, delivers_all_msgs, drops_all_msgs}
use Rattle.rb_cluster.proofs.directives.messages_are_delivered_in_order.Goals as goal

pub returns-clause-delivered : goal.returns-clause-delivered
returns-clause-delivered x = λ c d asked id n does nodes drop choice at. done c d (requests.DeliverMsgs asked) does ∙ delivers_all_msgs c asked id n nodes drop choice at

pub returns-clause-dropped : goal.returns-clause-dropped
returns-clause-dropped x = λ c d asked id does nodes drop choice. done c d (requests.DeliverMsgs asked) does ∙ drops_all_msgs c asked id nodes drop choice

pub returns-clause-chosen : goal.returns-clause-chosen
returns-clause-chosen x = λ c d asked id n does nodes drop at. done c d (requests.DeliverMsgs asked) does ∙ delivers_msgs c asked id n nodes drop at

pub returns-clause-chosen_dropped : goal.returns-clause-chosen_dropped
returns-clause-chosen_dropped x = λ c d asked id does nodes drop. done c d (requests.DeliverMsgs asked) does ∙ drops_msgs c asked id nodes drop
