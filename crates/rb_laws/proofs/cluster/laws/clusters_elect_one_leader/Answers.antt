use Rattle.rb_laws.proofs.ClusterElections.{one_cluster_leader}
use Rattle.rb_laws.proofs.cluster.laws.clusters_elect_one_leader.Goals as goal

pub returns : goal.returns
returns c = one_cluster_leader
