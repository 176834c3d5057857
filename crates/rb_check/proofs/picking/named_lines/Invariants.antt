-- The lines so far are those of the targets so far.
use Rattle.std.proofs.Common.{take}
use Rattle.rb_check.specs.Targets.{AreLines}
use Rattle.rb_check.proofs.picking.named_lines.Given as goal

abbrev pub invariant-loop-target : goal.invariant-loop-target
invariant-loop-target g l = AreLines (g.S.System.tells_one l.system) l.path (take l.target-index l.targets) l.lines.items
