use Rattle.rb_files.proofs.finding.find.Goals as goal

pub returns-clause-walked : goal.returns-clause-walked
returns-clause-walked g c = c.find_in.ensures.walked
