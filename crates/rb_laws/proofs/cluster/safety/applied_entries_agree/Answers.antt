use Rattle.rb_laws.proofs.TwoMoments.{applied_same}
use Rattle.rb_laws.proofs.cluster.safety.applied_entries_agree.Goals as goal

pub returns : goal.returns
returns c = applied_same
