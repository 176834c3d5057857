use Rattle.std.proofs.Common.{[], refl}
use Rattle.rb_script_report.proofs.WhyLaws.{told-adds}
use Rattle.rb_script_report.proofs.laws.nothing_is_told_unasked.Goals as goal

pub returns : goal.returns
returns c = λ shown colors ls path heads s. (told-adds shown colors ls path [] heads s).same refl
