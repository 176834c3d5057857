use Rattle.rb_site.proofs.steps.ran.Goals as goal

pub steps_of-requires-clause-count : goal.steps_of-requires-clause-count
steps_of-requires-clause-count g c = c.requires.heads.count
