use Rattle.rb_laws.proofs.ProposalLaws.{payload_is_next, change_is_next, empty_is_next}
use Rattle.rb_laws.proofs.node.actions.proposals_are_appended.Goals as goal

pub returns-clause-payload : goal.returns-clause-payload
returns-clause-payload c = λ t m bytes. payload_is_next t m bytes

pub returns-clause-change : goal.returns-clause-change
returns-clause-change c = λ t m transition words. change_is_next t m transition words

pub returns-clause-empty : goal.returns-clause-empty
returns-clause-empty c = λ t m transition words. empty_is_next t m transition words
