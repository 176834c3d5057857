use Rattle.rb_bench.proofs.RunLaws.{ended_once, failed_once, none_ends, none_fails, some_refused}
use Rattle.rb_bench.proofs.laws.runs_are_one.Goals as goal

pub returns-clause-ended : goal.returns-clause-ended
returns-clause-ended c = ended_once

pub returns-clause-failed : goal.returns-clause-failed
returns-clause-failed c = failed_once

pub returns-clause-none : goal.returns-clause-none
returns-clause-none c = none_ends

pub returns-clause-refused : goal.returns-clause-refused
returns-clause-refused c = some_refused

pub returns-clause-unfailed : goal.returns-clause-unfailed
returns-clause-unfailed c = none_fails
