use Rattle.rb_calls.proofs.CallLaws.{runs}
use Rattle.rb_laws.proofs.node.laws.commit_never_falls.Goals as goal

pub returns-clause-commit : goal.returns-clause-commit
returns-clause-commit c = λ cs t sound. ((runs cs t).goes sound).commit

pub returns-clause-applied : goal.returns-clause-applied
returns-clause-applied c = λ cs t sound. ((runs cs t).goes sound).applied

pub returns-clause-base : goal.returns-clause-base
returns-clause-base c = λ cs t sound. ((runs cs t).goes sound).base
