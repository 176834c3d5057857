use Rattle.rb_laws.proofs.ChoiceLaws.{lost_quorum_steps_down}
use Rattle.rb_laws.proofs.node.laws.lost_quorums_end_a_lead.Goals as goal

pub returns : goal.returns
returns c = λ t. lost_quorum_steps_down t
