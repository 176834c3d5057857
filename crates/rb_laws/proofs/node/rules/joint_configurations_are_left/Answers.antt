use Rattle.rb_laws.proofs.ConfigLaws.{joint_is_left}
use Rattle.rb_laws.proofs.node.rules.joint_configurations_are_left.Goals as goal

pub returns : goal.returns
returns c = λ t. joint_is_left t
