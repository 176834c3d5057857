use Rattle.rb_tracker.proofs.MoveLaws.{entered_auto, leaving_is, simple_halves}
use Rattle.rb_tracker.proofs.laws.joint_configurations_are_left.Goals as goal

pub returns-clause-entered : goal.returns-clause-entered
returns-clause-entered c = entered_auto

pub returns-clause-left : goal.returns-clause-left
returns-clause-left c = leaving_is

pub returns-clause-simple : goal.returns-clause-simple
returns-clause-simple c = simple_halves
