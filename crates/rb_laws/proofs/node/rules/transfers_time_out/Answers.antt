use Rattle.rb_laws.proofs.TimerLaws.{transfer_times_out}
use Rattle.rb_laws.proofs.node.rules.transfers_time_out.Goals as goal

pub returns : goal.returns
returns c = λ t. transfer_times_out t
