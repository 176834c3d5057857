use Rattle.rb_laws.proofs.LoneElections.{lone_is_elected}
use Rattle.rb_laws.proofs.cluster.progress.lone_candidates_are_elected.Goals as goal

pub returns-clause-leads : goal.returns-clause-leads
returns-clause-leads c = λ s at n places alone. (lone_is_elected s at n places alone).0

pub returns-clause-delivered : goal.returns-clause-delivered
returns-clause-delivered c = λ s at n places alone. (lone_is_elected s at n places alone).1
