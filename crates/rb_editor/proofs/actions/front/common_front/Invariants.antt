-- The lines so far are the same.
use Rattle.std.proofs.Common.{◌≡◌, ◌≤◌, ◌+◌, drop}
use Rattle.rb_editor.specs.Findings.{common_front}
use Rattle.rb_editor.proofs.actions.front.common_front.Given as goal

abbrev pub invariant-loop-i : goal.invariant-loop-i
invariant-loop-i l = record {
  same : l.i + common_front (drop l.i l.expected) (drop l.i l.output) ≡ common_front l.expected l.output;
  within : l.i ≤ l.count;
}
