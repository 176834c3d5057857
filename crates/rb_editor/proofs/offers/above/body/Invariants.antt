-- Nothing but blanks stands behind what is left.
use Rattle.std.proofs.Common.{length}
use Rattle.rb_script.proofs.MarkLaws.{BlankBehind}
use Rattle.rb_editor.proofs.offers.above.body.Given as goal

abbrev pub invariant-loop-last : goal.invariant-loop-last
invariant-loop-last l = BlankBehind l.line l.front

abbrev pub decreases-loop-last : goal.decreases-loop-last
decreases-loop-last l = length l.front
