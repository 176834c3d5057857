use Rattle.rb_laws.proofs.LineLaws.{ends_named, type_named, its_term_named, values_named}
use Rattle.rb_laws.proofs.lines.messages_are_shown_by_name.Goals as goal

pub returns-clause-ends : goal.returns-clause-ends
returns-clause-ends c = ends_named

pub returns-clause-named : goal.returns-clause-named
returns-clause-named c = type_named

pub returns-clause-term : goal.returns-clause-term
returns-clause-term c = its_term_named

pub returns-clause-values : goal.returns-clause-values
returns-clause-values c = values_named
