use Rattle.rb_raftlog.proofs.AppendLaws.{matched-term, added-entry}
use Rattle.rb_raftlog.proofs.laws.appended_entries_match.Goals as goal

pub returns-clause-terms : goal.returns-clause-terms
returns-clause-terms c = matched-term

pub returns-clause-entries : goal.returns-clause-entries
returns-clause-entries c = added-entry
