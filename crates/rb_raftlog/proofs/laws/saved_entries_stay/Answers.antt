use Rattle.rb_raftlog.proofs.SavedLaws.{appended-saves, own-saves, restored-saves, restarted-saves, durable-saves, compacted-saves}
use Rattle.rb_raftlog.proofs.laws.saved_entries_stay.Goals as goal

pub returns-clause-appended : goal.returns-clause-appended
returns-clause-appended c = appended-saves

pub returns-clause-own : goal.returns-clause-own
returns-clause-own c = own-saves

pub returns-clause-restored : goal.returns-clause-restored
returns-clause-restored c = restored-saves

pub returns-clause-restarted : goal.returns-clause-restarted
returns-clause-restarted c = restarted-saves

pub returns-clause-written : goal.returns-clause-written
returns-clause-written c = durable-saves

pub returns-clause-compacted : goal.returns-clause-compacted
returns-clause-compacted c = compacted-saves
