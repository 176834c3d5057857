use Rattle.rb_view.proofs.SizeLaws.{rows_short}
use Rattle.rb_view.proofs.rows.laws.rows_grow_with_what_they_say.Goals as goal

pub returns : goal.returns
returns c = rows_short
