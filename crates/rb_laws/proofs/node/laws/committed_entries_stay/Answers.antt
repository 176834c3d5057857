use Rattle.rb_calls.proofs.CallLaws.{runs}
use Rattle.rb_laws.proofs.node.laws.committed_entries_stay.Goals as goal

pub returns-clause-entries : goal.returns-clause-entries
returns-clause-entries c = λ cs t i sound. ((runs cs t).goes sound).kept i

pub returns-clause-durable : goal.returns-clause-durable
returns-clause-durable c = λ cs t i sound. ((runs cs t).goes sound).durable i
