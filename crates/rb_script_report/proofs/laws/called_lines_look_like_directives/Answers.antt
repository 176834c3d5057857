use Rattle.rb_script_report.proofs.DoubtLaws.{all_right}
use Rattle.rb_script_report.proofs.laws.called_lines_look_like_directives.Goals as goal

pub returns : goal.returns
returns c = all_right
