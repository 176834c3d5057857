use Rattle.rb_replay.proofs.ReuseLaws.{cost-one}
use Rattle.rb_replay.proofs.laws.cost_is_one.Goals as goal

pub returns : goal.returns
returns c = cost-one
