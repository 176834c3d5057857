use Rattle.rb_raftlog.proofs.VoteLaws.{up_to_date-total, up_to_date-on}
use Rattle.rb_raftlog.proofs.laws.logs_are_ordered.Goals as goal

pub returns-clause-total : goal.returns-clause-total
returns-clause-total c = up_to_date-total

pub returns-clause-on : goal.returns-clause-on
returns-clause-on c = up_to_date-on
