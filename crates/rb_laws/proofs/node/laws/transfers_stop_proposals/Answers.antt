use Rattle.rb_laws.proofs.ChoiceLaws.{transfers_stop_proposals}
use Rattle.rb_laws.proofs.node.laws.transfers_stop_proposals.Goals as goal

pub returns : goal.returns
returns c = λ t body. transfers_stop_proposals t body
