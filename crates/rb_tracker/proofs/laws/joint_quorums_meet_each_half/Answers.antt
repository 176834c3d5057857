use Rattle.std.proofs.Common.{true}
use Rattle.rb_tracker.proofs.QuorumLaws.{found_shares, majorities_meet, incoming_majority, outgoing_majority}
use Rattle.rb_tracker.proofs.laws.joint_quorums_meet_each_half.Goals as goal

pub returns-clause-old : goal.returns-clause-old
returns-clause-old c = λ d p q first second. found_shares d.outgoing p q (λ _. true) (majorities_meet d.outgoing p q (outgoing_majority d p second.some first) second)

pub returns-clause-new : goal.returns-clause-new
returns-clause-new c = λ d p q first second. found_shares d.incoming p q (λ _. true) (majorities_meet d.incoming p q (incoming_majority d p first) second)
