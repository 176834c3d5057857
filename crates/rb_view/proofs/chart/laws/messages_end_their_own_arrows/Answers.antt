use Rattle.rb_view.proofs.PendingArrows.{ends_its_own}
use Rattle.rb_view.proofs.chart.laws.messages_end_their_own_arrows.Goals as goal

pub returns : goal.returns
returns c = ends_its_own
