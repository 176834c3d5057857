-- Those so far, and what is still to come.
use Rattle.std.proofs.Common.{◌≡◌, ◌++◌, drop}
use Rattle.rb_replay.specs.Run.{outputs}
use Rattle.rb_script_report.specs.Accepting.{left_heads}
use Rattle.rb_script_report.proofs.accepting.left_heads.Given as goal

abbrev pub invariant-loop-i : goal.invariant-loop-i
invariant-loop-i g l =
    l.left.items ++ left_heads l.wanted l.text (drop l.i l.heads) (drop l.i l.session.script.blocks) (drop l.i (outputs l.session.script))
    ≡ left_heads l.wanted l.text l.heads l.session.script.blocks (outputs l.session.script)
