use Rattle.std.proofs.Common.{◌≡◌, ◌≤◌, true, length}
use Rattle.std.specs.List.{list_all}
use Rattle.rb_script.specs.Flat.{between}
use Rattle.rb_script.specs.Marks.{is_plain}
use Rattle.rb_script.specs.Script.{needs_double}
use Rattle.rb_script.proofs.reading.plain_run.Given as goal

abbrev pub invariant-loop-at : goal.invariant-loop-at
invariant-loop-at l = record {
  order : l.start ≤ l.at;
  within : l.at ≤ length l.all;
  passes : list_all is_plain (between l.start l.at l.all) ≡ true;
  form : l.is_double ≡ needs_double (between l.start l.at l.all);
}
