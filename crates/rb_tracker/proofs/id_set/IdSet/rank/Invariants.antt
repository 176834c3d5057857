use Rattle.std.proofs.Common.{◌≡◌, ◌+◌, drop}
use Rattle.rb_tracker.specs.Sets.{rank}
use Rattle.rb_tracker.proofs.id_set.IdSet.rank.Given as goal

abbrev pub invariant-loop-x : goal.invariant-loop-x
invariant-loop-x l = record {
  at : l.at ≡ l.x-index;
  rest : rank l.self l.id ≡ l.x-index + rank (drop l.x-index l.x-items) l.id;
}
