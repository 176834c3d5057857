use Rattle.rb_script_report.proofs.MismatchLaws.{shown-nothing, found-nothing}
use Rattle.rb_script_report.proofs.laws.matching_scripts_show_nothing.Goals as goal

pub returns-clause-found : goal.returns-clause-found
returns-clause-found c = found-nothing

pub returns-clause-shown : goal.returns-clause-shown
returns-clause-shown c = shown-nothing
