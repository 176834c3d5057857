-- The words so far name the targets so far.
use Rattle.std.proofs.Common.{take}
use Rattle.rb_program.specs.Targets.{AreNamed}
use Rattle.rb_program.proofs.target.targets.Given as goal

abbrev pub invariant-loop-word : goal.invariant-loop-word
invariant-loop-word g l = AreNamed (g.S.PathKinds.tells_kind l.system) (take l.word-index l.words) l.all.items
