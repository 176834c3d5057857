use Rattle.rb_script_report.proofs.WhyLaws.{told-adds}
use Rattle.rb_script_report.proofs.laws.reasons_stand_between_outputs.Goals as goal

pub returns : goal.returns
returns c = λ shown colors ls path whys heads s. (told-adds shown colors ls path whys heads s).only
