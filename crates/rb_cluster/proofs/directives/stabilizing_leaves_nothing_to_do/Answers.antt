use Rattle.rb_machine.specs.Rounds.{chosen}
use Rattle.rb_cluster.proofs.DirectiveLaws.{stabilizes}
use Rattle.rb_cluster.proofs.directives.stabilizing_leaves_nothing_to_do.Goals as goal

pub returns : goal.returns
returns x = λ ids rounds c. stabilizes rounds rounds (chosen ids c.nodes) c
