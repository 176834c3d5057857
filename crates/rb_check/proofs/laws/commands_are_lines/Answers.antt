use Rattle.rb_check.proofs.LineLaws.{all_in_line, all_in_value}
use Rattle.rb_check.proofs.laws.commands_are_lines.Goals as goal

pub returns-clause-messages : goal.returns-clause-messages
returns-clause-messages c = all_in_line

pub returns-clause-properties : goal.returns-clause-properties
returns-clause-properties c = all_in_value
