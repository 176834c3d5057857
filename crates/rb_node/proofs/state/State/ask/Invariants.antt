use Rattle.std.proofs.Common.{◌≡◌, drop}
use Rattle.rb_node.specs.Campaigns.{asked}
use Rattle.rb_node.proofs.state.State.ask.Given as goal

abbrev pub invariant-loop-id : goal.invariant-loop-id
invariant-loop-id g l = asked l.initial.self l.ids l.term l.question l.answer ≡ asked l.self (drop l.id-index l.ids) l.term l.question l.answer
