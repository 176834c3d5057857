-- The lines so far are the first.
use Rattle.std.proofs.Common.{◌≡◌, ◌≤◌, take}
use Rattle.rb_editor.specs.declared.actions.actual_output.TheConstants.{MAX_SHOWN}
use Rattle.rb_editor.proofs.actions.actual_output.first_lines.Given as goal

abbrev pub invariant-loop-i : goal.invariant-loop-i
invariant-loop-i l = record {
  first : l.front ≡ take l.i l.output;
  within : l.i ≤ MAX_SHOWN;
}
