use Rattle.rb_program.proofs.rewriting.input.Goals as goal

pub returns-in-Ok-clause-read : goal.returns-in-Ok-clause-read
returns-in-Ok-clause-read g c = (c.reader.result, c.in-Ok.ensures.whole)

pub returns-clause-failed : goal.returns-clause-failed
returns-clause-failed g c = (c.in-Err.fault, c.from.ensures)
