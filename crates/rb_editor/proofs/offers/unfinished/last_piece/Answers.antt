use Rattle.std.proofs.Common.{refl}
use Rattle.rb_editor.specs.Unfinished.{last_piece}
use Rattle.rb_editor.proofs.offers.unfinished.last_piece.Goals as goal

pub loop-i-init : goal.loop-i-init
unfolding last_piece
loop-i-init c = refl
