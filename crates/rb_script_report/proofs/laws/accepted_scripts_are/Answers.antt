use Rattle.rb_replay.specs.Run.{outputs}
use Rattle.rb_script_report.proofs.AcceptLaws.{accepted_at}
use Rattle.rb_script_report.proofs.laws.accepted_scripts_are.Goals as goal

pub returns : goal.returns
returns c = λ wanted ls heads s. accepted_at wanted ls heads s.blocks (outputs s)
