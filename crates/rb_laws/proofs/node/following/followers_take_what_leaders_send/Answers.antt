use Rattle.rb_laws.proofs.TakingLaws.{append_taken, heartbeat_taken}
use Rattle.rb_laws.proofs.node.following.followers_take_what_leaders_send.Goals as goal

pub returns-clause-append : goal.returns-clause-append
returns-clause-append c = append_taken

pub returns-clause-heartbeat : goal.returns-clause-heartbeat
returns-clause-heartbeat c = heartbeat_taken
