use Rattle.rb_laws.proofs.ReadyLaws.{nothing_is, has_none}
use Rattle.rb_laws.proofs.node.laws.ready_is_exact.Goals as goal

pub returns-clause-none : goal.returns-clause-none
returns-clause-none c = λ n. nothing_is n

pub returns-clause-some : goal.returns-clause-some
returns-clause-some c = λ n. has_none n
