use Rattle.rb_raftlog.proofs.VoteLaws.{compacted-term, compacted-entry}
use Rattle.rb_raftlog.proofs.laws.compacting_keeps_terms.Goals as goal

pub returns-clause-terms : goal.returns-clause-terms
returns-clause-terms c = compacted-term

pub returns-clause-entries : goal.returns-clause-entries
returns-clause-entries c = compacted-entry
