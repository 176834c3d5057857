use Rattle.rb_view.proofs.WaitingLaws.{goes_on_waiting}
use Rattle.rb_view.proofs.chart.laws.what_is_on_its_way_waits.Goals as goal

pub returns : goal.returns
returns c = goes_on_waiting
