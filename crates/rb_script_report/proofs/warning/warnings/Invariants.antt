-- Those so far, and what is still to come.
use Rattle.std.proofs.Common.{◌≡◌, ◌++◌, drop}
use Rattle.rb_replay.specs.Run.{outputs}
use Rattle.rb_script_report.specs.Doubts.{all_warnings}
use Rattle.rb_script_report.proofs.warning.warnings.Given as goal

abbrev pub invariant-loop-i : goal.invariant-loop-i
invariant-loop-i g l =
    l.found.items ++ all_warnings l.layout.text (drop l.i l.heads) (drop l.i l.session.script.blocks) (drop l.i (outputs l.session.script))
    ≡ all_warnings l.layout.text l.heads l.session.script.blocks (outputs l.session.script)
