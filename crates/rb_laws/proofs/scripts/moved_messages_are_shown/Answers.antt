use Rattle.rb_laws.proofs.ScriptLaws.{delivered_are_shown, dropped_are_shown}
use Rattle.rb_laws.proofs.scripts.moved_messages_are_shown.Goals as goal

pub returns-clause-delivered : goal.returns-clause-delivered
returns-clause-delivered c = λ choice k id m among. delivered_are_shown choice k id m among

pub returns-clause-dropped : goal.returns-clause-dropped
returns-clause-dropped c = λ choice k id m among. dropped_are_shown choice k id m among
