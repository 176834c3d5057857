use Rattle.rb_view.proofs.InertLaws.{texts_short}
use Rattle.rb_view.proofs.rows.laws.texts_grow_little.Goals as goal

pub returns : goal.returns
returns c = texts_short
