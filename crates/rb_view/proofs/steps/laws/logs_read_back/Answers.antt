use Rattle.rb_view.proofs.ReadBackLaws.{reads_back, still_reads_back}
use Rattle.rb_view.proofs.steps.laws.logs_read_back.Goals as goal

pub returns-clause-written : goal.returns-clause-written
returns-clause-written c = reads_back

pub returns-clause-still : goal.returns-clause-still
returns-clause-still c = still_reads_back
