use Rattle.rb_laws.proofs.HeartbeatLaws.{heartbeats_sent}
use Rattle.rb_laws.proofs.node.timing.leaders_send_heartbeats.Goals as goal

pub returns : goal.returns
returns c = λ t id. heartbeats_sent t id
