use Rattle.rb_script.proofs.LinePartLaws.{space_sound, space_complete, blanks_sound, blanks_complete}
use Rattle.rb_script.proofs.laws.blanks_are.Goals as goal

pub returns-clause-byte : goal.returns-clause-byte
returns-clause-byte c = λ b. (space_sound b, space_complete b)

pub returns-clause-line : goal.returns-clause-line
returns-clause-line c = λ line. (blanks_sound line, blanks_complete line)
