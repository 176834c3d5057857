use Rattle.rb_laws.proofs.PendingLaws.{started_knows, called_knows, run_knows}
use Rattle.rb_laws.proofs.node.rules.leaders_know_of_changes.Goals as goal

pub returns-clause-started : goal.returns-clause-started
returns-clause-started c = λ id start options. started_knows id start options

pub returns-clause-called : goal.returns-clause-called
returns-clause-called c = λ call t. called_knows call t

pub returns-clause-run : goal.returns-clause-run
returns-clause-run c = λ cs t. run_knows cs t
