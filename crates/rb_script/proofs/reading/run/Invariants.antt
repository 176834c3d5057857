use Rattle.std.proofs.Common.{◌≡◌, ◌≤◌, true, length}
use Rattle.std.specs.List.{list_all}
use Rattle.rb_script.specs.Flat.{between}
use Rattle.rb_script.specs.Marks.{in_run}
use Rattle.rb_script.proofs.reading.run.Given as goal

abbrev pub invariant-loop-at : goal.invariant-loop-at
invariant-loop-at l = record {
  order : l.start ≤ l.at;
  within : l.at ≤ length l.all;
  passes : list_all (in_run l.kind) (between l.start l.at l.all) ≡ true;
}
