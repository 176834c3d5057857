use Rattle.rb_raftlog.proofs.AppendLaws.{committed-term, committed-entry}
use Rattle.rb_raftlog.proofs.laws.committed_entries_stay.Goals as goal

pub returns-clause-terms : goal.returns-clause-terms
returns-clause-terms c = committed-term

pub returns-clause-entries : goal.returns-clause-entries
returns-clause-entries c = committed-entry
