use Rattle.rb_laws.proofs.RefusalLaws.{refused_for}
use Rattle.rb_laws.proofs.node.rules.votes_are_refused_for_a_reason.Goals as goal

pub returns : goal.returns
returns c = λ n m last_term last_index pre_vote. refused_for n m last_term last_index pre_vote
