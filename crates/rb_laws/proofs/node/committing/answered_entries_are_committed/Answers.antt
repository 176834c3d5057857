use Rattle.rb_laws.proofs.AnsweredLaws.{answered_is_committed, asked_is_committed}
use Rattle.rb_laws.proofs.node.committing.answered_entries_are_committed.Goals as goal

pub returns-clause-all : goal.returns-clause-all
returns-clause-all c = answered_is_committed

pub returns-clause-asked : goal.returns-clause-asked
returns-clause-asked c = asked_is_committed
