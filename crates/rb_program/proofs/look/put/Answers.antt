use Rattle.rb_program.proofs.LookLaws.{matched_output, of_output}
use Rattle.rb_program.proofs.look.put.Goals as goal

pub returns-clause-matched : goal.returns-clause-matched
returns-clause-matched g c = rw c.status_of.ensures (matched_output c.put_seen.result)

pub returns-clause-failed : goal.returns-clause-failed
returns-clause-failed g c = rw c.status_of.ensures (of_output c.put_seen.result)
