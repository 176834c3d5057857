use Rattle.rb_replay.proofs.ReuseLaws.{cost-le}
use Rattle.rb_replay.proofs.laws.cost_is_bounded.Goals as goal

pub returns : goal.returns
returns c = cost-le
