use Rattle.rb_raftlog.proofs.AppendLaws.{again}
use Rattle.rb_raftlog.proofs.laws.appending_again_changes_nothing.Goals as goal

pub returns : goal.returns
returns c = again
