use Rattle.rb_laws.proofs.ChoiceLaws.{votes_disturb_nobody, pre_votes_disturb_nobody}
use Rattle.rb_laws.proofs.node.laws.candidates_disturb_nobody.Goals as goal

pub returns-clause-vote : goal.returns-clause-vote
returns-clause-vote c = λ t m last_term last_index. votes_disturb_nobody t m last_term last_index

pub returns-clause-pre_vote : goal.returns-clause-pre_vote
returns-clause-pre_vote c = λ t m last_term last_index. pre_votes_disturb_nobody t m last_term last_index
