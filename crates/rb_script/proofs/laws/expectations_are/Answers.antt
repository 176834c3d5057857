use Rattle.rb_script.proofs.SharedLaws.{text_line, line_text_is}
use Rattle.rb_script.proofs.RefusalLaws.{expectation_sound, expectation_complete}
use Rattle.rb_script.proofs.laws.expectations_are.Goals as goal

pub returns-clause-line : goal.returns-clause-line
returns-clause-line c = λ line. (text_line line, line_text_is line)

pub returns-clause-lines : goal.returns-clause-lines
returns-clause-lines c = λ ls. (expectation_sound ls, expectation_complete ls)
