use Rattle.rb_script.proofs.EndLaws.{double_at_blank, double_at_pair}
use Rattle.rb_script.proofs.laws.double_expectations_end.Goals as goal

pub returns-clause-at_blank : goal.returns-clause-at_blank
returns-clause-at_blank c = double_at_blank

pub returns-clause-at_pair : goal.returns-clause-at_pair
returns-clause-at_pair c = double_at_pair
