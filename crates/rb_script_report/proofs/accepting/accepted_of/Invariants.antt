-- Those so far, and what is still to come.
use Rattle.std.proofs.Common.{◌≡◌, ◌++◌, drop}
use Rattle.rb_script.specs.Shared.{values}
use Rattle.rb_replay.specs.Run.{outputs}
use Rattle.rb_script_report.specs.Accepting.{accepted_of}
use Rattle.rb_script_report.proofs.accepting.accepted_of.Given as goal

abbrev pub invariant-loop-i : goal.invariant-loop-i
invariant-loop-i g l =
    values l.all.items ++ accepted_of l.wanted l.text (drop l.i l.heads) (drop l.i l.session.script.blocks) (drop l.i (outputs l.session.script))
    ≡ accepted_of l.wanted l.text l.heads l.session.script.blocks (outputs l.session.script)
