use Rattle.rb_laws.proofs.ProposalLaws.{proposal_goes_on}
use Rattle.rb_laws.proofs.node.actions.proposals_are_passed_on.Goals as goal

pub returns : goal.returns
returns c = λ t m body. proposal_goes_on t m body
