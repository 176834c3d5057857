-- The rows so far, and those of the directives that are left.
use Rattle.std.proofs.Common.{◌≡◌, ◌+◌, ◌-◌, ◌≤◌, ◌^◌, ◌++◌, drop, take}
use Rattle.std.specs.List.{flat_map}
use Rattle.rb_replay.specs.Run.{state}
use Rattle.rb_view.specs.SomeSteps.{left_at, some_steps}
use Rattle.rb_view.specs.Steps.{step_texts, steps}
use Rattle.rb_view.proofs.steps.some.keep_some.Given as goal

abbrev pub invariant-loop-i : goal.invariant-loop-i
invariant-loop-i g l = record {
  rows : l.texts ++ flat_map step_texts (take (l.some.to - l.i) (drop l.i (steps l.some.heads.now l.session.script))) ≡ l.initial.texts ++ flat_map step_texts (some_steps l.some.heads.now l.session.script l.some.from (l.some.to - l.some.from));
  here : g.M.Machine.meaning l.machine ≡ state l.session.script l.i;
  left : l.table.left ≡ left_at l.session.script l.i;
  from : l.some.from ≤ l.i;
  counted : l.initial.meter ≤ 2 ^ 62 → l.meter ≡ l.initial.meter + (l.i - l.some.from);
}
