use Rattle.rb_editor.proofs.OrderLaws.{lines_in_order}
use Rattle.rb_editor.proofs.offers.laws.lines_stay_in_order.Goals as goal

pub returns : goal.returns
returns c = lines_in_order
