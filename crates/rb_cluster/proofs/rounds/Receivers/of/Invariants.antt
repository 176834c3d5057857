-- An id is marked where one of the messages so far is for it.
use Rattle.std.proofs.Common.{◌≡◌, ◌<◌, ℕ, true, length, take, get_or}
use Rattle.rb_cluster.specs.declared.rounds.TheConstants.{MARKS}
use Rattle.rb_machine.specs.Rounds.{has_mail}
use Rattle.rb_cluster.proofs.rounds.Receivers.of.Given as goal

abbrev pub invariant-loop-shared : goal.invariant-loop-shared
invariant-loop-shared l = record {
  long : length l.has ≡ MARKS;
  each : (id : ℕ) → id < MARKS → get_or l.has id true ≡ has_mail (take l.shared-index l.pending) id;
}
