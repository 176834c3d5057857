use Rattle.rb_directive.proofs.BuildLaws.{options_taken}
use Rattle.rb_directive.proofs.laws.options_are_those_of_the_table.Goals as goal

pub returns-clause-taken : goal.returns-clause-taken
returns-clause-taken c = options_taken
