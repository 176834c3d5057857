use Rattle.rb_laws.proofs.EarlierLaws.{later_term_taken_up, lease_ends}
use Rattle.rb_laws.proofs.node.rules.later_terms_are_taken_up.Goals as goal

pub returns-clause-shown : goal.returns-clause-shown
returns-clause-shown c = λ t m. later_term_taken_up t m

pub returns-clause-lease : goal.returns-clause-lease
returns-clause-lease c = λ t m last_term last_index transfer. lease_ends t m last_term last_index transfer
