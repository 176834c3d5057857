use Rattle.std.proofs.Common.{◌≡◌, drop}
use Rattle.rb_node.specs.Node.{node_step}
use Rattle.rb_node.specs.Readying.{own_answers_stepped}
use Rattle.rb_node.proofs.advancing.step_own_answers.Given as goal

abbrev pub invariant-loop-message : goal.invariant-loop-message
invariant-loop-message g l =
    own_answers_stepped l.id (node_step l.initial.state l.initial.events.items) l.waiting ≡ own_answers_stepped l.id (node_step l.state l.events.items) (drop l.message-index l.waiting)
