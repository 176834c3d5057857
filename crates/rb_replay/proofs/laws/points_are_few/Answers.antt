use Rattle.rb_replay.proofs.PointLaws.{kept-few}
use Rattle.rb_replay.proofs.laws.points_are_few.Goals as goal

pub returns : goal.returns
returns c = kept-few
