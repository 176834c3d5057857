use Rattle.rb_program.proofs.subcommands.worked.Goals as goal

pub returns-clause-done : goal.returns-clause-done
returns-clause-done g c = (c.done-ended.result, c.done-ended.ensures.done, rw (← c.as_deref-every.ensures.value) c.ended_with_every.ensures)
