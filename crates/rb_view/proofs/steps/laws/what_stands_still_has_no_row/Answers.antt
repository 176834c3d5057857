use Rattle.rb_view.proofs.ChangeLaws.{no_rows}
use Rattle.rb_view.proofs.steps.laws.what_stands_still_has_no_row.Goals as goal

pub returns : goal.returns
returns c = no_rows
