use Rattle.rb_laws.proofs.ClusterElections.{cluster_saved}
use Rattle.rb_laws.proofs.SavedLinks.{leader_saved}
use Rattle.rb_laws.proofs.cluster.restarts.leaders_have_saved_their_terms.Goals as goal

pub returns-clause-networks : goal.returns-clause-networks
returns-clause-networks c = λ s os k n net at leads. (let h = net.honest in leader_saved h.members s os k n h.single h.begun h.before net.before at leads)

pub returns-clause-scripts : goal.returns-clause-scripts
returns-clause-scripts c = cluster_saved
