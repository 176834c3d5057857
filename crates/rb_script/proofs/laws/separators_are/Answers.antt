use Rattle.rb_script.proofs.ExpectationLaws.{rule_is}
use Rattle.rb_script.proofs.LinePartLaws.{rule_passes, separator_sound, separator_complete}
use Rattle.rb_script.proofs.laws.separators_are.Goals as goal

pub returns-clause-separator : goal.returns-clause-separator
returns-clause-separator c = λ line. (separator_sound line, separator_complete line)

pub returns-clause-exact : goal.returns-clause-exact
returns-clause-exact c = λ line. (rule_is line, rule_passes line)
