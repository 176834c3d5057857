use Rattle.rb_laws.proofs.RestartMoments.{applied_same}
use Rattle.rb_laws.proofs.cluster.restarts.applied_entries_agree_with_restarts.Goals as goal

pub returns : goal.returns
returns c = applied_same
