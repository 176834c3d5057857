use Rattle.rb_files.proofs.WalkLaws.{because, begun}
use Rattle.rb_files.proofs.finding.Search.visit_all.Goals as goal

pub returns-clause-walked : goal.returns-clause-walked
returns-clause-walked g c = because c.walk.result _ _ (λ w. (c.let_paths_wait.new.self, begun _ c.args.self.now c.let_paths_wait.new.self c.requires.begun c.in_ok-let_paths_wait.ensures.waits, w)) c.walk.ensures.walked
