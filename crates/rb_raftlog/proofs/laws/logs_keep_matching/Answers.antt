use Rattle.rb_raftlog.proofs.MatchLaws.{either_way, appended-matches, own-matches, compacted-matches, written-matches, restored-matches}
use Rattle.rb_raftlog.proofs.laws.logs_keep_matching.Goals as goal

pub returns-clause-either : goal.returns-clause-either
returns-clause-either c = either_way

pub returns-clause-appended : goal.returns-clause-appended
returns-clause-appended c = appended-matches

pub returns-clause-own : goal.returns-clause-own
returns-clause-own c = own-matches

pub returns-clause-compacted : goal.returns-clause-compacted
returns-clause-compacted c = compacted-matches

pub returns-clause-written : goal.returns-clause-written
returns-clause-written c = written-matches

pub returns-clause-restored : goal.returns-clause-restored
returns-clause-restored c = restored-matches
