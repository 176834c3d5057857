use Rattle.rb_raftlog.proofs.SavedLaws.{restarted-entries}
use Rattle.rb_raftlog.proofs.laws.restarted_logs_have_what_is_durable.Goals as goal

pub returns : goal.returns
returns c = restarted-entries
