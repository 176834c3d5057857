use Rattle.rb_machine.specs.Pending.{is_meant}
use Rattle.rb_cluster.proofs.ChoiceLaws.{chosen_by_number}
use Rattle.rb_cluster.proofs.directives.messages_are_chosen_by_number.Goals as goal

pub returns : goal.returns
returns x = λ pending id choice. chosen_by_number (is_meant id choice) choice.skip choice.count pending
