use Rattle.rb_view.proofs.InertLaws.{rows_inert}
use Rattle.rb_view.proofs.rows.laws.rows_are_inert.Goals as goal

pub returns : goal.returns
returns c = rows_inert
