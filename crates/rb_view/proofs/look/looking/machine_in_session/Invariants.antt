use Rattle.std.specs.Prelude.{◌≡◌, ◌+◌, ◌-◌, ◌≤◌}
use Rattle.rb_replay.specs.Points.{last_up_to}
use Rattle.rb_replay.specs.Run.{state}
use Rattle.rb_view.proofs.look.looking.machine_in_session.Given as goal

abbrev pub invariant-loop-i : goal.invariant-loop-i
invariant-loop-i g l = record {
  here : g.M.Machine.meaning l.machine ≡ state l.session.script l.i;
  counted : g.M.Meter.Count.count_of l.meter ≤ g.M.Meter.Count.count_of l.fn.meter + (l.i - last_up_to l.place l.session.points);
  past : last_up_to l.place l.session.points ≤ l.i;
  within : l.i ≤ l.place;
}
