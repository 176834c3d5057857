use Rattle.rb_laws.proofs.ClusterHistory.{cluster_commits_same}
use Rattle.rb_laws.proofs.cluster.safety.clusters_committed_entries_agree.Goals as goal

pub returns : goal.returns
returns c = cluster_commits_same
