use Rattle.rb_laws.proofs.EarlierLaws.{earlier_leaves, earlier_question_refused, earlier_leader_shown}
use Rattle.rb_laws.proofs.node.rules.earlier_terms_change_nothing.Goals as goal

pub returns-clause-stays : goal.returns-clause-stays
returns-clause-stays c = λ t m. earlier_leaves t m

pub returns-clause-asked : goal.returns-clause-asked
returns-clause-asked c = λ t m last_term last_index. earlier_question_refused t m last_term last_index

pub returns-clause-shown : goal.returns-clause-shown
returns-clause-shown c = λ t m. earlier_leader_shown t m
