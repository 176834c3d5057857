use Rattle.std.proofs.Common.{◌≡◌, ◌+◌, ◌-◌, ◌<◌, ℕ, length}
use Rattle.rb_replay.specs.Run.{state}
use Rattle.rb_replay.specs.Reuse.{change_by, start, Meets}
use Rattle.rb_replay.specs.Running.{HasRun, PacedAt}
use Rattle.rb_replay.specs.Splices.{IsNext}
use Rattle.rb_replay.proofs.session.Session.run_on.Given as goal

abbrev pub invariant-steps : goal.invariant-steps
invariant-steps g l = record {
  begins : l.running.from ≡ start (change_by l.self l.new l.splice);
  spaced : l.running.checkpoint_interval ≡ l.self.checkpoint_interval;
  run : HasRun g.M.Machine.meaning l.new l.running;
  paced : PacedAt l.running;
  here : g.M.Machine.meaning l.machine ≡ state l.new l.running.at;
  next : IsNext l.self.points (l.running.at - l.splice.new_rest + l.splice.old_rest) l.index;
  unmet : (t : ℕ) → t < l.running.at → Meets (change_by l.self l.new l.splice) t → ⊥;
  counted : g.M.Meter.Count.count_of l.meter ≡ g.M.Meter.Count.count_of l.fn.meter + (l.running.at - l.running.from);
}

abbrev pub decreases-steps : goal.decreases-steps
decreases-steps g l = length l.new.blocks - l.running.at
