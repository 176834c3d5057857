use Rattle.rb_bench.proofs.OneLaws.{talks_once}
use Rattle.rb_bench.proofs.laws.conversations_are_one.Goals as goal

pub returns : goal.returns
returns c = talks_once
