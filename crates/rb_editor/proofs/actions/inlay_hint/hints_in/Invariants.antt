-- The hints so far, and those that are left. The machine, if there is one, has run the directives so far.
use Rattle.std.proofs.Common.{◌≡◌, ◌≤◌, ◌+◌, ◌*◌, ◌^◌, ◌++◌, drop}
use Rattle.std.specs.Prelude.{IfSome}
use Rattle.rb_script.specs.declared.limits.TheConstants.{MAX_DIRECTIVES}
use Rattle.rb_script.specs.Lines.{lines}
use Rattle.rb_replay.specs.Run.{state}
use Rattle.rb_editor.specs.Heads.{heads_of}
use Rattle.rb_editor.specs.Hints.{hints_from, hints_in}
use Rattle.rb_editor.proofs.actions.inlay_hint.hints_in.Given as goal

abbrev pub invariant-loop-i : goal.invariant-loop-i
invariant-loop-i g l = record {
  said : l.list.items ++ hints_from (lines l.run.text.now) l.run.session.now.script l.span l.i (drop l.i (heads_of l.run.text.now l.run.session.now.script)) (drop l.i l.run.session.now.script.blocks)
      ≡ hints_in l.run.text.now l.run.session.now.script l.span;
  last : IfSome l.last (λ m. g.M.Machine.meaning m ≡ state l.run.session.now.script l.i);
  meter : g.M.Meter.Count.count_of l.meter ≤ 2 ^ 61 + 2 ^ 60 + l.i * MAX_DIRECTIVES;
}
