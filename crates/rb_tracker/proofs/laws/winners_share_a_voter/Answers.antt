use Rattle.rb_tracker.specs.Sets.{has}
use Rattle.rb_tracker.proofs.QuorumLaws.{quorums_meet}
use Rattle.rb_tracker.proofs.VoteLaws.{won_decides}
use Rattle.rb_tracker.proofs.laws.winners_share_a_voter.Goals as goal

pub returns-clause-quorum : goal.returns-clause-quorum
returns-clause-quorum c = won_decides

pub returns-clause-share : goal.returns-clause-share
returns-clause-share c = λ d v w some first second. quorums_meet d (λ id. has v.granted id) (λ id. has w.granted id) (won_decides d v some first) (won_decides d w some second)
