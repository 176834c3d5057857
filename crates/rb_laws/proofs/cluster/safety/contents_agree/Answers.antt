use Rattle.rb_laws.proofs.TwoMoments.{contents_agree}
use Rattle.rb_laws.proofs.cluster.safety.contents_agree.Goals as goal

pub returns : goal.returns
returns c = contents_agree
