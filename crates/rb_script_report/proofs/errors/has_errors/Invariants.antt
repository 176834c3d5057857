-- No output so far is an error.
use Rattle.std.proofs.Common.{◌≡◌, drop}
use Rattle.std.specs.List.{list_any}
use Rattle.rb_replay.specs.Run.{outputs}
use Rattle.rb_script_report.specs.Errors.{is_error}
use Rattle.rb_script_report.proofs.errors.has_errors.Given as goal

abbrev pub invariant-loop-i : goal.invariant-loop-i
invariant-loop-i g l = list_any is_error (drop l.i (outputs l.session.script)) ≡ list_any is_error (outputs l.session.script)
