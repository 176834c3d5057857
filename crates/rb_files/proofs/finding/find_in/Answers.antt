use Rattle.rb_files.proofs.finding.find_in.Goals as goal

pub returns-in-Ok-clause-walked : goal.returns-in-Ok-clause-walked
returns-in-Ok-clause-walked g c = λ whole. c.in-Ok.ensures.walked
