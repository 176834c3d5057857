use Rattle.rb_tracker.proofs.QuorumLaws as laws
use Rattle.rb_tracker.proofs.laws.quorums_meet.Goals as goal

pub returns : goal.returns
returns c = laws.quorums_meet
