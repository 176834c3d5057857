use Rattle.rb_replay.proofs.RewriteLaws.{rewritten-reads, rewritten-read}
use Rattle.rb_replay.proofs.laws.rewritten_scripts_match.Goals as goal

pub returns-clause-reads : goal.returns-clause-reads
returns-clause-reads c = rewritten-read

pub returns-clause-once : goal.returns-clause-once
returns-clause-once c = rewritten-reads
