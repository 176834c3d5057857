use Rattle.rb_raftlog.proofs.AppendLaws.{appended-is_log}
use Rattle.rb_raftlog.proofs.SavedLaws.{restored-is_log, restarted-is_log}
use Rattle.rb_raftlog.proofs.VoteLaws.{fresh-is_log, own-is_log, made_durable-is_log, compacted-is_log}
use Rattle.rb_raftlog.proofs.laws.durable_stays_within.Goals as goal

pub returns-clause-fresh : goal.returns-clause-fresh
returns-clause-fresh c = fresh-is_log

pub returns-clause-appended : goal.returns-clause-appended
returns-clause-appended c = appended-is_log

pub returns-clause-own : goal.returns-clause-own
returns-clause-own c = own-is_log

pub returns-clause-made_durable : goal.returns-clause-made_durable
returns-clause-made_durable c = made_durable-is_log

pub returns-clause-compacted : goal.returns-clause-compacted
returns-clause-compacted c = compacted-is_log

pub returns-clause-restored : goal.returns-clause-restored
returns-clause-restored c = λ v s fits. restored-is_log v s fits

pub returns-clause-restarted : goal.returns-clause-restarted
returns-clause-restarted c = restarted-is_log
