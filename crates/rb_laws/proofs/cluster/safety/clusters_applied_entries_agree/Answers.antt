use Rattle.rb_laws.proofs.ClusterHistory.{cluster_applied_same}
use Rattle.rb_laws.proofs.cluster.safety.clusters_applied_entries_agree.Goals as goal

pub returns : goal.returns
returns c = cluster_applied_same
