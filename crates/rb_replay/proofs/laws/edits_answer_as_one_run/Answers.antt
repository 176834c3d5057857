use Rattle.rb_replay.proofs.AfterLaws.{leads-both, leads-outputs, leads-mismatches, leads-rewritten, leads-exact}
use Rattle.rb_replay.proofs.laws.edits_answer_as_one_run.Goals as goal

pub returns-clause-run : goal.returns-clause-run
returns-clause-run c = leads-both

pub returns-clause-outputs : goal.returns-clause-outputs
returns-clause-outputs c = leads-outputs

pub returns-clause-mismatches : goal.returns-clause-mismatches
returns-clause-mismatches c = leads-mismatches

pub returns-clause-rewritten : goal.returns-clause-rewritten
returns-clause-rewritten c = leads-rewritten

pub returns-clause-exact : goal.returns-clause-exact
returns-clause-exact c = leads-exact
