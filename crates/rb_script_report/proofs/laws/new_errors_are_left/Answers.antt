use Rattle.rb_replay.specs.Run.{outputs}
use Rattle.rb_script_report.proofs.AcceptLaws.{left_new}
use Rattle.rb_script_report.proofs.laws.new_errors_are_left.Goals as goal

pub returns : goal.returns
returns c = λ wanted ls heads s k line b o none. left_new wanted ls heads s.blocks (outputs s) k line b o none
