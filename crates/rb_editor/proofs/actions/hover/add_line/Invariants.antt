-- The directives that are left have the line, or none has it; nothing went out.
use Rattle.std.proofs.Common.{◌≡◌, ◌≤◌, ◌^◌, drop}
use Rattle.rb_replay.specs.Run.{outputs}
use Rattle.rb_editor.specs.Heads.{heads_of}
use Rattle.rb_editor.specs.Hovers.{hover_in}
use Rattle.rb_editor.proofs.actions.hover.add_line.Given as goal

abbrev pub invariant-loop-i : goal.invariant-loop-i
invariant-loop-i g l = record {
  left : hover_in l.run.encoding l.run.text.now l.run.session.now.script l.line l.i (drop l.i (heads_of l.run.text.now l.run.session.now.script)) (drop l.i l.run.session.now.script.blocks) (drop l.i (outputs l.run.session.now.script))
      ≡ hover_in l.run.encoding l.run.text.now l.run.session.now.script l.line 0 (heads_of l.run.text.now l.run.session.now.script) l.run.session.now.script.blocks (outputs l.run.session.now.script);
  out : l.out.items ≡ l.fn.out.items;
  meter : g.M.Meter.Count.count_of l.meter ≤ 2 ^ 62;
}
