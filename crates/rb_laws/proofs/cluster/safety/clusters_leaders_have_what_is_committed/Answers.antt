use Rattle.rb_laws.proofs.ClusterHistory.{cluster_leads}
use Rattle.rb_laws.proofs.cluster.safety.clusters_leaders_have_what_is_committed.Goals as goal

pub returns : goal.returns
returns c = cluster_leads
