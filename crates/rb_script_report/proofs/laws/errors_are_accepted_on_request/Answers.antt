use Rattle.std.proofs.Common.{List, ap}
use Rattle.rb_script.specs.Lines.{Line}
use Rattle.rb_script.specs.Script.{with_outputs}
use Rattle.rb_replay.specs.Run.{outputs}
use Rattle.rb_script_report.proofs.AcceptLaws.{all_accepted}
use Rattle.rb_script_report.proofs.ShownLaws.{outputs_len}
use Rattle.rb_script_report.proofs.laws.errors_are_accepted_on_request.Goals as goal

pub returns : goal.returns
returns c = λ wanted ls heads s taken all count. ap (λ (os : List (List Line)). with_outputs s os) (all_accepted wanted ls heads s.blocks (outputs s) taken all count (outputs_len s))
