use Rattle.rb_replay.specs.Run.{outputs}
use Rattle.rb_script_report.proofs.AcceptLaws.{stays}
use Rattle.rb_script_report.proofs.laws.others_stay.Goals as goal

pub returns : goal.returns
returns c = λ wanted ls heads s. stays wanted ls heads s.blocks (outputs s)
