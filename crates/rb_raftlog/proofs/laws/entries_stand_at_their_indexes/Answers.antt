use Rattle.rb_raftlog.proofs.PlaceLaws.{from-entries, from-all, between-entries, between-all, not_durable-entries, not_durable-all}
use Rattle.rb_raftlog.proofs.laws.entries_stand_at_their_indexes.Goals as goal

pub returns-clause-from : goal.returns-clause-from
returns-clause-from c = from-entries

pub returns-clause-from_all : goal.returns-clause-from_all
returns-clause-from_all c = from-all

pub returns-clause-between : goal.returns-clause-between
returns-clause-between c = between-entries

pub returns-clause-between_all : goal.returns-clause-between_all
returns-clause-between_all c = between-all

pub returns-clause-not_durable : goal.returns-clause-not_durable
returns-clause-not_durable c = not_durable-entries

pub returns-clause-not_durable_all : goal.returns-clause-not_durable_all
returns-clause-not_durable_all c = not_durable-all
