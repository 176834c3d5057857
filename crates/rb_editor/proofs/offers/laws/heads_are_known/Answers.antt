use Rattle.rb_editor.proofs.AboveLaws.{heads_known}
use Rattle.rb_editor.proofs.offers.laws.heads_are_known.Goals as goal

pub returns : goal.returns
returns c = heads_known
