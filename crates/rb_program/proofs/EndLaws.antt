-- What a run's answer is as the program's.
use Rattle.std.proofs.Common.{ℕ, List, Option, Result, Ok, Err, inl, refl}
use Rattle.rb_report.specs.declared.check.status.Status.{Status}
use Rattle.rb_bench.specs.declared.fault.BenchFault.{BenchFault}
use Rattle.rb_program.specs.Refusals.{EndsAs, of_run}

pub ends_as : (answers : Result Status BenchFault → Option (List ℕ) → Option (List ℕ) → Type 0) (result : Result Status BenchFault) (before after : Option (List ℕ)) → answers result before after
    → EndsAs answers (of_run result)
ends_as answers (Ok status) before after h = (before, after, h)
ends_as answers (Err fault) before after h = inl (fault, before, after, h, refl)
