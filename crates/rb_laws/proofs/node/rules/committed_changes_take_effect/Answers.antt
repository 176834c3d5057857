use Rattle.rb_laws.proofs.ConfigLaws.{all_config, advance_config}
use Rattle.rb_laws.proofs.node.rules.committed_changes_take_effect.Goals as goal

pub returns-clause-entries : goal.returns-clause-entries
returns-clause-entries c = λ t i es. all_config t i es

pub returns-clause-advance : goal.returns-clause-advance
returns-clause-advance c = λ t. advance_config t
