-- The rows so far, and those of the directives that are left; what was printed; what is shown of contents.
use Rattle.std.proofs.Common.{◌≡◌, ◌+◌, ◌≤◌, ◌^◌, ◌++◌, drop, take}
use Rattle.std.specs.List.{flat_map}
use Rattle.rb_machine.specs.Cluster.{empty}
use Rattle.rb_replay.specs.Run.{outputs, state}
use Rattle.rb_view.specs.Steps.{step_texts, steps, steps_from}
use Rattle.rb_view.specs.Values.{GoOnShowingBytes}
use Rattle.rb_view.proofs.steps.steps.keep_directives.Given as goal

abbrev pub invariant-loop-i : goal.invariant-loop-i
invariant-loop-i g l = record {
  rows : l.texts ++ flat_map step_texts (steps_from l.table.left (drop l.i l.heads) (g.M.Machine.meaning l.machine) (drop l.i l.script.blocks)) ≡ l.initial.texts ++ flat_map step_texts (steps l.heads l.script);
  here : g.M.Machine.meaning l.machine ≡ state l.script l.i;
  printed : l.printed ≡ take l.i (outputs l.script);
  bytes : GoOnShowingBytes (g.M.Machine.meaning l.machine) (drop l.i l.script.blocks) → GoOnShowingBytes empty l.script.blocks;
  counted : l.initial.meter ≤ 2 ^ 62 → l.meter ≡ l.initial.meter + l.i;
}
