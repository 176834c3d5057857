use Rattle.rb_laws.proofs.CommitCallLaws.{run_all, elected_all}
use Rattle.rb_laws.proofs.node.committing.leaders_commit_all_that_they_may.Goals as goal

pub returns-clause-run : goal.returns-clause-run
returns-clause-run c = λ cs t. run_all cs t

pub returns-clause-elected : goal.returns-clause-elected
returns-clause-elected c = λ t. elected_all t
