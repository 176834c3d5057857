use Rattle.std.proofs.Common.{Ok, Err, inr, refl}
use Rattle.rb_program.proofs.job.run_opened.Goals as goal

pub returns-in-Ok-clause-answered : goal.returns-in-Ok-clause-answered
returns-in-Ok-clause-answered g c = λ right. inr (Ok c.in-Ok.status, (c.in_ok-opened.opened, c.run_from-ended.new.source.0, c.in-Ok.ensures.answered right), refl)

pub returns-in-Err-clause-answered : goal.returns-in-Err-clause-answered
returns-in-Err-clause-answered g c = λ right. inr (Err c.in-Err.refusal, (c.in_ok-opened.opened, c.run_from-ended.new.source.0, c.in-Err.ensures.answered right), c.explained.ensures)
