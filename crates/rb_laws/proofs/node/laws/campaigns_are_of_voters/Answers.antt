use Rattle.rb_laws.proofs.ChoiceLaws.{campaigns_may, stands_may}
use Rattle.rb_laws.proofs.node.laws.campaigns_are_of_voters.Goals as goal

pub returns-clause-asked : goal.returns-clause-asked
returns-clause-asked c = λ t transfer. campaigns_may t transfer

pub returns-clause-won : goal.returns-clause-won
returns-clause-won c = λ t. stands_may t
