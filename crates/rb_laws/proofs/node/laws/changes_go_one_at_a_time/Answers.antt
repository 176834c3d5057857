use Rattle.rb_laws.proofs.ChoiceLaws.{proposed_puts}
use Rattle.rb_laws.proofs.node.laws.changes_go_one_at_a_time.Goals as goal

pub returns : goal.returns
returns c = λ t transition words. proposed_puts t transition words
