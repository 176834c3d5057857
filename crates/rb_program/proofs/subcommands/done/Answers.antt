use Rattle.rb_program.specs.Done.{IsDone}
use Rattle.rb_program.proofs.subcommands.done.Goals as goal

pub returns-in-Chart-clause-done : goal.returns-in-Chart-clause-done
unfolding IsDone
returns-in-Chart-clause-done g c = rw (c.in-Chart.is, ← c.as_deref-in-Chart.ensures.value, ← c.as_deref.ensures.value) c.chart.ensures
