-- The blocks so far are made.
use Rattle.std.proofs.Common.{◌≡◌, take}
use Rattle.rb_script.specs.Script.{all_expecting}
use Rattle.rb_script.specs.Shared.{values}
use Rattle.rb_script.proofs.edits.all_expecting.Given as goal

abbrev pub invariant-loop-i : goal.invariant-loop-i
invariant-loop-i l = values l.made.items ≡ take l.i (all_expecting l.blocks l.outputs)
