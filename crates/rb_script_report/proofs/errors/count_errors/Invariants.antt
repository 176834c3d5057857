-- Those so far are counted.
use Rattle.std.proofs.Common.{◌≡◌, ◌+◌, ◌≤◌, drop}
use Rattle.rb_replay.specs.Run.{outputs}
use Rattle.rb_script_report.specs.Errors.{error_count}
use Rattle.rb_script_report.proofs.errors.count_errors.Given as goal

abbrev pub invariant-loop-i : goal.invariant-loop-i
invariant-loop-i g l = record {
  sum : l.count + error_count l.text (drop l.i l.heads) (drop l.i (outputs l.session.script)) ≡ error_count l.text l.heads (outputs l.session.script);
  few : l.count ≤ l.i;
}
