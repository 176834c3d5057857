use Rattle.rb_script.specs.Lines.{lines}
use Rattle.rb_script.proofs.HeadLineLaws.{heads_stand}
use Rattle.rb_script_report.proofs.laws.shown_lines_are_of_heads.Goals as goal

pub returns : goal.returns
returns c = λ bytes s heads. heads_stand (lines bytes) s.blocks heads
