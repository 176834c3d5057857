use Rattle.rb_script.proofs.LinePartLaws.{lead_sound, lead_complete}
use Rattle.rb_script.proofs.laws.lead_lines_are.Goals as goal

pub returns : goal.returns
returns c = λ line. (lead_sound line, lead_complete line)
