use Rattle.rb_laws.proofs.StateLaws.{active_quorum, quorum_is_active, voter_is, change_is_there, change_is_seen, last_of_last, most_decide, alone_decide}
use Rattle.rb_laws.proofs.node.rules.tests_mean_their_names.Goals as goal

pub returns-clause-quorum : goal.returns-clause-quorum
returns-clause-quorum c = λ t. active_quorum t

pub returns-clause-active : goal.returns-clause-active
returns-clause-active c = λ t. quorum_is_active t

pub returns-clause-voter : goal.returns-clause-voter
returns-clause-voter c = λ c id. voter_is c id

pub returns-clause-change : goal.returns-clause-change
returns-clause-change c = λ v after upto. change_is_there v after upto

pub returns-clause-changes : goal.returns-clause-changes
returns-clause-changes c = λ v after upto. change_is_seen v after upto

pub returns-clause-last : goal.returns-clause-last
returns-clause-last c = λ es e. last_of_last es e

pub returns-clause-most : goal.returns-clause-most
returns-clause-most c = λ voters among. most_decide voters among

pub returns-clause-alone : goal.returns-clause-alone
returns-clause-alone c = λ c among. alone_decide c among
