use Rattle.rb_laws.proofs.EarlierLaws.{old_log_refused}
use Rattle.rb_laws.proofs.node.rules.pre_votes_look_at_logs.Goals as goal

pub returns : goal.returns
returns c = λ t m last_term last_index. old_log_refused t m last_term last_index
