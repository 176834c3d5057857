-- All that are chosen are among those that are left.
use Rattle.std.proofs.Common.{◌≡◌, drop}
use Rattle.rb_machine.specs.Pending.{is_meant, chosen_by, mail}
use Rattle.rb_cluster.proofs.pending.has_chosen.Given as goal

abbrev pub invariant-loop-shared : goal.invariant-loop-shared
invariant-loop-shared l = mail l.pending l.id l.choice ≡ chosen_by (is_meant l.id l.choice) l.quota (drop l.shared-index l.pending)
