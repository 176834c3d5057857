use Rattle.std.proofs.Common.{◌≡◌, ◌++◌, map, take, drop}
use Rattle.rb_tracker.specs.Active.{inactive_unless_own}
use Rattle.rb_tracker.proofs.tracker.Tracker.mark_others_inactive.Given as goal

abbrev pub invariant-loop-i : goal.invariant-loop-i
invariant-loop-i l = record {
  config : l.self.config ≡ l.initial.self.config;
  views : l.self.views ≡ map (inactive_unless_own l.own) (take l.i l.initial.self.views) ++ drop l.i l.initial.self.views;
}
