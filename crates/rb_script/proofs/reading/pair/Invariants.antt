use Rattle.std.proofs.Common.{◌≡◌, ◌≤◌, drop, length}
use Rattle.rb_script.specs.Flat.{between}
use Rattle.rb_script.specs.Expectations.{to_pair}
use Rattle.rb_script.proofs.ReadingLaws.{with_lines}
use Rattle.rb_script.proofs.reading.pair.Given as goal

abbrev pub invariant-loop-at : goal.invariant-loop-at
invariant-loop-at l = record {
  order : l.start ≤ l.at;
  within : l.at ≤ length l.all;
  found : with_lines (between l.start l.at l.all) (to_pair (drop l.at l.all)) ≡ to_pair (drop l.start l.all);
}
