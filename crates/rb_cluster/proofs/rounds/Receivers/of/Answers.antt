use Rattle.std.proofs.Common.{true, false, refl}
use Rattle.std.proofs.lemmas.List.{get_or-replicate}
use Rattle.rb_cluster.specs.declared.rounds.TheConstants.{MARKS}
use Rattle.rb_cluster.proofs.rounds.Receivers.of.Goals as goal

pub loop-shared-init : goal.loop-shared-init
loop-shared-init c = record { long = refl; each = λ id h. get_or-replicate MARKS id false true h }
