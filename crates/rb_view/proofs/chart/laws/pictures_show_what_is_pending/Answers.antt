use Rattle.rb_view.proofs.PicturesEnd.{drawn_ends}
use Rattle.rb_view.proofs.chart.laws.pictures_show_what_is_pending.Goals as goal

pub returns : goal.returns
returns c = drawn_ends
