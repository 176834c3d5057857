-- What is said of the directives so far, and which mismatches are left.
use Rattle.std.proofs.Common.{◌≡◌, ◌≤◌, ◌+◌, ◌++◌, drop}
use Rattle.rb_replay.specs.Run.{outputs}
use Rattle.rb_replay.specs.Report.{differing}
use Rattle.rb_editor.specs.Findings.{findings}
use Rattle.rb_editor.proofs.actions.findings.each_finding.Given as goal

abbrev pub invariant-loop-i : goal.invariant-loop-i
invariant-loop-i g l = record {
  said : l.list.items ++ findings l.table.left l.first l.text (drop l.i l.heads) (drop l.i l.session.script.blocks) (drop l.i (outputs l.session.script))
      ≡ findings l.initial.table.left l.first l.text l.heads l.session.script.blocks (outputs l.session.script);
  left : drop l.next l.mismatches ≡ differing (l.i + 1) (drop l.i l.session.script.blocks) (drop l.i (outputs l.session.script));
  few : l.next ≤ l.i;
}
