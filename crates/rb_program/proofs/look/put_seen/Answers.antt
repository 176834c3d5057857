use Rattle.rb_program.proofs.HandedLaws.{still_written}
use Rattle.rb_program.proofs.look.put_seen.Goals as goal

pub returns-clause-wrote : goal.returns-clause-wrote
returns-clause-wrote g c = still_written c.put_directive-written.result c.handed_on.result _ _ _ _ c.put_directive-written.ensures.wrote c.handed_on.ensures.failed c.handed_on.ensures.kept
