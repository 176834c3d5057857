use Rattle.rb_script_report.proofs.MismatchLaws.{shown-mismatches}
use Rattle.rb_script_report.proofs.laws.mismatches_are_shown.Goals as goal

pub returns : goal.returns
returns c = shown-mismatches
