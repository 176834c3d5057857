use Rattle.std.proofs.Common.{◌≡◌, ◌+◌, ◌-◌, length}
use Rattle.rb_machine.specs.Cluster.{empty}
use Rattle.rb_replay.specs.Run.{state}
use Rattle.rb_replay.specs.Running.{HasRun, PacedOn}
use Rattle.rb_replay.proofs.start.run_whole.Given as goal

abbrev pub invariant-loop-running : goal.invariant-loop-running
invariant-loop-running g l = record {
  begins : l.running.from ≡ 0;
  spaced : l.running.checkpoint_interval ≡ l.checkpoint_interval;
  run : HasRun g.M.Machine.meaning l.script l.running;
  paced : PacedOn l.running;
  here : g.M.Machine.meaning l.machine ≡ state l.script l.running.at;
  before : g.M.Machine.meaning l.first ≡ empty;
  counted : g.M.Meter.Count.count_of l.meter ≡ g.M.Meter.Count.count_of l.fn.meter + l.running.at;
}

abbrev pub decreases-loop-running : goal.decreases-loop-running
decreases-loop-running g l = length l.script.blocks - l.running.at
