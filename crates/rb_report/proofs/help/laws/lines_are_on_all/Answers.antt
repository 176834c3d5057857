use Rattle.std.proofs.Common.{refl}
use Rattle.rb_vocab.specs.MessageTypes.{type_of}
use Rattle.rb_report.specs.HelpLines.{option_line, option_lines, value_line, value_lines}
use Rattle.rb_report.specs.Manual.{keys}
use Rattle.rb_report.proofs.help.laws.lines_are_on_all.Goals as goal

pub returns-clause-options : goal.returns-clause-options
unfolding option_line option_lines keys
returns-clause-options c = refl

pub returns-clause-log_level : goal.returns-clause-log_level
unfolding option_line option_lines
returns-clause-log_level c = refl

pub returns-clause-values : goal.returns-clause-values
unfolding value_line value_lines type_of
returns-clause-values c = refl
