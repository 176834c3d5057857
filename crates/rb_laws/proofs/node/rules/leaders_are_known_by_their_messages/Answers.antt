use Rattle.rb_laws.proofs.KnownLeaderLaws.{leader_known, free_votes}
use Rattle.rb_laws.proofs.node.rules.leaders_are_known_by_their_messages.Goals as goal

pub returns-clause-known : goal.returns-clause-known
returns-clause-known c = λ t m. leader_known t m

pub returns-clause-vote : goal.returns-clause-vote
returns-clause-vote c = λ t m last_term last_index transfer. free_votes t m last_term last_index transfer
