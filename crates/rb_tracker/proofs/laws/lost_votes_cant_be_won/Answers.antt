use Rattle.rb_tracker.proofs.MoveLaws.{lost_stays, winnable}
use Rattle.rb_tracker.proofs.laws.lost_votes_cant_be_won.Goals as goal

pub returns-clause-stays : goal.returns-clause-stays
returns-clause-stays c = lost_stays

pub returns-clause-winnable : goal.returns-clause-winnable
returns-clause-winnable c = winnable
