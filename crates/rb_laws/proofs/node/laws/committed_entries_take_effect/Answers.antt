use Rattle.rb_laws.proofs.ChangeLaws.{all_fill}
use Rattle.rb_laws.proofs.ReadyLaws.{own_turn_fills, own_turn_applied}
use Rattle.rb_laws.proofs.node.laws.committed_entries_take_effect.Goals as goal

pub returns-clause-entries : goal.returns-clause-entries
returns-clause-entries c = λ t i es. all_fill t i es

pub returns-clause-content : goal.returns-clause-content
returns-clause-content c = λ t. own_turn_fills t

pub returns-clause-applied : goal.returns-clause-applied
returns-clause-applied c = λ t. own_turn_applied t
