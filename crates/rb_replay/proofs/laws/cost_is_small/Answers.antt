use Rattle.rb_replay.proofs.ReuseLaws.{cost-small, cost-near}
use Rattle.rb_replay.proofs.laws.cost_is_small.Goals as goal

pub returns-clause-one : goal.returns-clause-one
returns-clause-one c = cost-small

pub returns-clause-any : goal.returns-clause-any
returns-clause-any c = cost-near
