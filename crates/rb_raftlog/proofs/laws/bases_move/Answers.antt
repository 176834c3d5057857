use Rattle.rb_raftlog.proofs.PlaceLaws.{compacted-ends, restored-ends}
use Rattle.rb_raftlog.proofs.laws.bases_move.Goals as goal

pub returns-clause-compacted : goal.returns-clause-compacted
returns-clause-compacted c = compacted-ends

pub returns-clause-restored : goal.returns-clause-restored
returns-clause-restored c = restored-ends
