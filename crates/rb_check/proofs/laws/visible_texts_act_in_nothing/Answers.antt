use Rattle.rb_check.proofs.VisibleLaws.{all_visible}
use Rattle.rb_check.proofs.laws.visible_texts_act_in_nothing.Goals as goal

pub returns : goal.returns
returns c = all_visible
