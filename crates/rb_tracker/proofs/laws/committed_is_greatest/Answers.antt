use Rattle.rb_tracker.proofs.CommitLaws.{commit_is_held, commit_is_greatest, commit_of_nobody}
use Rattle.rb_tracker.proofs.laws.committed_is_greatest.Goals as goal

pub returns-clause-held : goal.returns-clause-held
returns-clause-held c = commit_is_held

pub returns-clause-greatest : goal.returns-clause-greatest
returns-clause-greatest c = commit_is_greatest

pub returns-clause-nobody : goal.returns-clause-nobody
returns-clause-nobody c = commit_of_nobody
