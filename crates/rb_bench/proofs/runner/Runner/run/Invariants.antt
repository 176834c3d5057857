-- The outputs so far; the reasons so far, and those that are still to come of the directives that are left; how many directives were run.
use Rattle.std.specs.Prelude.{◌≡◌, ◌+◌, ◌≤◌, ◌^◌, ◌++◌, take}
use Rattle.rb_replay.specs.Run.{outputs, state}
use Rattle.rb_bench.specs.Reasons.{asked_reasons}
use Rattle.rb_bench.proofs.ReasonLaws.{left}
use Rattle.rb_bench.proofs.runner.Runner.run.Given as goal

abbrev pub invariant-loop-i : goal.invariant-loop-i
invariant-loop-i g l = record {
  here : l.cluster ≡ state l.script l.i;
  printed : l.ran.outputs ≡ take l.i (outputs l.script);
  so_far : l.ran.whys.items ++ left l.explains l.cluster l.script.blocks l.i ≡ asked_reasons l.explains l.script;
  counted : l.initial.self ≤ 2 ^ 62 → l.self ≡ l.initial.self + l.i;
}
