use Rattle.std.proofs.Common.{◌≡◌, drop}
use Rattle.rb_tracker.specs.Sets.{union}
use Rattle.rb_tracker.proofs.id_set.IdSet.extend.Given as goal

abbrev pub invariant-loop-id : goal.invariant-loop-id
invariant-loop-id l = union l.initial.self l.ids ≡ union l.self (drop l.id-index l.ids)
