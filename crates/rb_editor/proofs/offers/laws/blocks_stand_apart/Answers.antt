use Rattle.rb_editor.proofs.BlockLaws.{blocks_apart}
use Rattle.rb_editor.proofs.offers.laws.blocks_stand_apart.Goals as goal

pub returns : goal.returns
returns c = blocks_apart
