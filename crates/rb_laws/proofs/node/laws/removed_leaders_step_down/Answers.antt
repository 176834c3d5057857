use Rattle.rb_laws.proofs.ChoiceLaws.{removed_leaders_step_down}
use Rattle.rb_laws.proofs.node.laws.removed_leaders_step_down.Goals as goal

pub returns : goal.returns
returns c = λ t transition words d. removed_leaders_step_down t transition words d
