use Rattle.rb_replay.proofs.AfterLaws.{leads-fresh}
use Rattle.rb_replay.proofs.laws.started_sessions_stay_fresh.Goals as goal

pub returns : goal.returns
returns c = leads-fresh
