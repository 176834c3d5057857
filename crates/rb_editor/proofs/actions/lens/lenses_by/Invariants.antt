-- The lenses so far, and those that are left.
use Rattle.std.proofs.Common.{◌≡◌, ◌++◌, drop}
use Rattle.rb_replay.specs.Run.{outputs}
use Rattle.rb_script_report.specs.Checked.{of_each}
use Rattle.rb_editor.specs.Heads.{heads_of}
use Rattle.rb_editor.specs.Lenses.{lenses_at, lenses_by}
use Rattle.rb_editor.proofs.actions.lens.lenses_by.Given as goal

abbrev pub invariant-loop-i : goal.invariant-loop-i
invariant-loop-i g l =
    l.list.items ++ of_each (lenses_at l.wanted.accepts l.wanted.opens l.run.text.now) (drop l.i (heads_of l.run.text.now l.run.session.now.script)) (drop l.i l.run.session.now.script.blocks) (drop l.i (outputs l.run.session.now.script))
    ≡ lenses_by l.wanted.accepts l.wanted.opens l.run.text.now l.run.session.now.script
