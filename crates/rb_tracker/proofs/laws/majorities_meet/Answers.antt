use Rattle.std.proofs.Common.{true}
use Rattle.rb_tracker.proofs.QuorumLaws.{found_shares}
use Rattle.rb_tracker.proofs.QuorumLaws as laws
use Rattle.rb_tracker.proofs.laws.majorities_meet.Goals as goal

pub returns : goal.returns
returns c = λ voters p q first second. found_shares voters p q (λ _. true) (laws.majorities_meet voters p q first second)
