use Rattle.rb_texts.proofs.ShownLaws.{all_solid}
use Rattle.rb_texts.proofs.laws.lines_are_solid.Goals as goal

pub returns : goal.returns
returns c = all_solid
