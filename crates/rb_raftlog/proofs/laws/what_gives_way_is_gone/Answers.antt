use Rattle.rb_raftlog.proofs.GoneLaws.{lost, all-gone}
use Rattle.rb_raftlog.proofs.laws.what_gives_way_is_gone.Goals as goal

pub returns-clause-lost : goal.returns-clause-lost
returns-clause-lost c = lost

pub returns-clause-gone : goal.returns-clause-gone
returns-clause-gone c = all-gone
