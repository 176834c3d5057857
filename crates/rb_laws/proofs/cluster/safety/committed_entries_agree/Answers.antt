use Rattle.rb_laws.proofs.TwoMoments.{commits_same}
use Rattle.rb_laws.proofs.cluster.safety.committed_entries_agree.Goals as goal

pub returns : goal.returns
returns c = commits_same
