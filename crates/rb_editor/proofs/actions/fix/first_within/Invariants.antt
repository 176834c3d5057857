-- The lines that are left have the first that is wanted.
use Rattle.std.proofs.Common.{◌≡◌, drop}
use Rattle.rb_editor.specs.Actions.{first_within}
use Rattle.rb_editor.proofs.actions.fix.first_within.Given as goal

abbrev pub invariant-loop-slip : goal.invariant-loop-slip
invariant-loop-slip l = first_within l.span (drop l.slip-index l.slips) ≡ first_within l.span l.slips
