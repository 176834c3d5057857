use Rattle.rb_laws.proofs.RestartMoments.{commits_same}
use Rattle.rb_laws.proofs.cluster.restarts.committed_entries_agree_with_restarts.Goals as goal

pub returns : goal.returns
returns c = commits_same
