use Rattle.rb_replay.proofs.ReplacementLaws.{expectations-none}
use Rattle.rb_replay.proofs.laws.expectations_cost_nothing.Goals as goal

pub returns : goal.returns
returns c = expectations-none
