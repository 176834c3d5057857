use Rattle.rb_raftlog.proofs.PlaceLaws.{replaced-last}
use Rattle.rb_raftlog.proofs.laws.conflicting_entries_go.Goals as goal

pub returns : goal.returns
returns c = replaced-last
