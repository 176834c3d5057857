use Rattle.rb_laws.proofs.ClusterHistory.{cluster_contents_agree}
use Rattle.rb_laws.proofs.cluster.safety.clusters_contents_agree.Goals as goal

pub returns : goal.returns
returns c = cluster_contents_agree
