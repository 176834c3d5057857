use Rattle.rb_laws.proofs.ChoiceLaws.{leads_to_voters}
use Rattle.rb_laws.proofs.node.laws.leads_go_to_voters.Goals as goal

pub returns : goal.returns
returns c = leads_to_voters
