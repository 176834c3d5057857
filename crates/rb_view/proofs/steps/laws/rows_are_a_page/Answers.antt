use Rattle.rb_view.proofs.StayLaws.{texts_are}
use Rattle.rb_view.proofs.steps.laws.rows_are_a_page.Goals as goal

pub returns : goal.returns
returns c = texts_are
