use Rattle.rb_replay.specs.Report.{rewritten}
use Rattle.rb_replay.proofs.RunLaws.{length-outputs}
use Rattle.rb_replay.proofs.session.Session.write_rewritten.Goals as goal

pub write_with-requires : goal.write_with-requires
write_with-requires g c = rw c.self.invariant.answered (length-outputs c.self.inside.script)

pub returns-clause-wrote : goal.returns-clause-wrote
unfolding rewritten
returns-clause-wrote g c = rw (← c.self.view_is, ← c.self.invariant.answered) c.write_with.ensures.wrote
