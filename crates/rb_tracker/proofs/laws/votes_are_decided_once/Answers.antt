use Rattle.rb_tracker.proofs.VoteLaws.{won_is, is_won_won, lost_is, won_is_open, more_stays_won, answer_grants_more, answered_once}
use Rattle.rb_tracker.specs.Ballots.{answered}
use Rattle.rb_tracker.proofs.laws.votes_are_decided_once.Goals as goal

pub returns-clause-won : goal.returns-clause-won
returns-clause-won c = λ d v. (won_is d v, is_won_won d v)

pub returns-clause-lost : goal.returns-clause-lost
returns-clause-lost c = lost_is

pub returns-clause-not_both : goal.returns-clause-not_both
returns-clause-not_both c = won_is_open

pub returns-clause-more : goal.returns-clause-more
returns-clause-more c = more_stays_won

pub returns-clause-stays : goal.returns-clause-stays
returns-clause-stays c = λ d v id granted won. more_stays_won d v (answered v id granted) (answer_grants_more v id granted) won

pub returns-clause-once : goal.returns-clause-once
returns-clause-once c = answered_once
