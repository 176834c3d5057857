use Rattle.rb_raftlog.proofs.VoteLaws.{hint-is}
use Rattle.rb_raftlog.proofs.laws.hints_are_greatest.Goals as goal

pub returns : goal.returns
returns c = hint-is
