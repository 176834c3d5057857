-- A conversation that begins with a session that was just started.
use Rattle.std.proofs.Common.{◌≡◌, ℕ, List, Option, Result, Ok, Err, subst}
use Rattle.rb_replay.specs.Holding.{Holding}
use Rattle.rb_report.specs.declared.check.status.Status.{Status}
use Rattle.rb_bench.specs.declared.fault.BenchFault.{BenchFault}
use Rattle.rb_bench.specs.declared.fault.BenchFault.TheVariants.{Io}
use Rattle.rb_bench.specs.Serves.{TalksOut, IsStarted, Serves, ServesOut}

served : (all : Option (List ℕ)) (r : Result Status BenchFault) (script : List ℕ) (every : ℕ) (old new : Option (List ℕ)) → Serves all r script every old new → ServesOut all r script every old new
served all (Ok status) script every old new s = s
served all (Err Io) script every old new s = s
served all r script every old new s = tt

-- where all is left to be read
pub serves : (left all : Option (List ℕ)) (r : Result Status BenchFault) (script : List ℕ) (every : ℕ) (first : Holding) (old new : Option (List ℕ)) → left ≡ all → IsStarted script every first → TalksOut left r first old new → ServesOut all r script every old new
serves left all r script every first old new e s t =
    served all r script every old new (record { first = first; started = s; talked = subst (λ (o : Option (List ℕ)). TalksOut o r first old new) e t })
