use Rattle.rb_bench.proofs.RunLaws.{started_once}
use Rattle.rb_bench.proofs.laws.sessions_start_as_one.Goals as goal

pub returns : goal.returns
returns c = started_once
