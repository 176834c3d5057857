use Rattle.rb_script.proofs.EndLaws.{plain_at_blank, plain_at_end}
use Rattle.rb_script.proofs.laws.plain_expectations_end.Goals as goal

pub returns-clause-at_blank : goal.returns-clause-at_blank
returns-clause-at_blank c = plain_at_blank

pub returns-clause-at_end : goal.returns-clause-at_end
returns-clause-at_end c = plain_at_end
