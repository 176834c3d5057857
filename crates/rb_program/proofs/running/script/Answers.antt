use Rattle.std.proofs.Common.{inr, subst}
use Rattle.rb_program.specs.declared.program_error.ProgramError.{ProgramError}
use Rattle.rb_program.specs.Refusals.{Explains}
use Rattle.rb_program.proofs.running.script.Goals as goal

pub returns-in-Ok-clause-read : goal.returns-in-Ok-clause-read
returns-in-Ok-clause-read g c = (c.in_ok-opened.opened, c.in-Ok.ensures.whole)

pub returns-clause-unread : goal.returns-clause-unread
returns-clause-unread g c = inr (c.in-Err.fault, subst (λ (refusal : ProgramError). Explains c.args.file.now refusal c.explained.result) c.from.ensures c.explained.ensures)
