use Rattle.rb_laws.proofs.RestartMoments.{contents_agree}
use Rattle.rb_laws.proofs.cluster.restarts.contents_agree_with_restarts.Goals as goal

pub returns : goal.returns
returns c = contents_agree
