use Rattle.rb_bench.proofs.SpellingLaws.{command_means, command_only}
use Rattle.rb_bench.proofs.command.command_of.Goals as goal

pub returns-clause-means : goal.returns-clause-means
returns-clause-means c = command_means c.args.line.now c.spelled.result c.spelled.ensures

pub returns-clause-only : goal.returns-clause-only
returns-clause-only c = λ command spells. command_only c.args.line.now c.spelled.result command c.spelled.ensures spells
