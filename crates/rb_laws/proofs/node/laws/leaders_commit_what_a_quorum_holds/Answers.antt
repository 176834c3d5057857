use Rattle.rb_laws.proofs.CommitLaws.{stepped_commits, change_commits, run_commits}
use Rattle.rb_laws.proofs.node.laws.leaders_commit_what_a_quorum_holds.Goals as goal

pub returns-clause-step : goal.returns-clause-step
returns-clause-step c = stepped_commits

pub returns-clause-change : goal.returns-clause-change
returns-clause-change c = change_commits

pub returns-clause-run : goal.returns-clause-run
returns-clause-run c = run_commits
