use Rattle.rb_laws.proofs.OneChangeHistory.{one_past_commit, one_past_applied, one_on_the_way}
use Rattle.rb_laws.proofs.cluster.changes.changes_wait_for_earlier_ones.Goals as goal

pub returns-clause-committed : goal.returns-clause-committed
returns-clause-committed c = λ s hs k n net at. one_past_commit net.leader net.members s hs k n net.begun net.led net.genuine at

pub returns-clause-applied : goal.returns-clause-applied
returns-clause-applied c = λ s hs k n net at decides. one_past_applied net.leader net.members s hs k n net.begun net.led net.genuine at decides

pub returns-clause-on_their_way : goal.returns-clause-on_their_way
returns-clause-on_their_way c = λ s hs m append net said is. one_on_the_way net.leader net.members s hs m append net.begun net.led net.genuine said is
