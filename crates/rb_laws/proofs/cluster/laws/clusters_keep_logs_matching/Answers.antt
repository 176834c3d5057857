use Rattle.rb_laws.proofs.ClusterElections.{cluster_matches}
use Rattle.rb_laws.proofs.cluster.laws.clusters_keep_logs_matching.Goals as goal

pub returns : goal.returns
returns c = cluster_matches
