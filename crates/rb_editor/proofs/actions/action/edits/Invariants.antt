-- The edits so far, and those that are left.
use Rattle.std.proofs.Common.{◌≡◌, ◌++◌, drop}
use Rattle.rb_script.specs.Lines.{lines}
use Rattle.rb_replay.specs.Run.{outputs}
use Rattle.rb_editor.specs.Heads.{heads_of}
use Rattle.rb_editor.specs.Actions.{edits_in, edits_of, is_wanted, listed}
use Rattle.rb_editor.proofs.actions.action.edits.Given as goal

abbrev pub invariant-loop-i : goal.invariant-loop-i
invariant-loop-i g l =
    l.out.items ++ listed l.later (edits_in (is_wanted l.selected.picked l.selected.span (lines l.selected.text.now)) l.selected.encoding l.selected.text.now (drop l.i (heads_of l.selected.text.now l.session.script)) (drop l.i l.session.script.blocks) (drop l.i (outputs l.session.script)))
    ≡ edits_of l.selected.encoding l.selected.text.now l.session.script l.selected.picked l.selected.span
