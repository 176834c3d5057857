use Rattle.rb_view.proofs.SizeLaws.{rows_counted}
use Rattle.rb_view.proofs.rows.laws.what_happens_has_a_row.Goals as goal

pub returns : goal.returns
returns c = rows_counted
