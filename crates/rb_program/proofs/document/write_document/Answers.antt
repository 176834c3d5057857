use Rattle.std.proofs.Common.{refl}
use Rattle.rb_program.proofs.document.write_document.Goals as goal

pub returns : goal.returns
returns g c = rw (← c.name_of-text.ensures, ← c.as_bytes-name.ensures.value) (c.run_job.ensures.answered refl)
