-- The scripts so far are checked.
use Rattle.std.proofs.Common.{◌≤◌, ◌-◌, length}
use Rattle.rb_check.proofs.ReportLaws.{AreDone}
use Rattle.rb_check.proofs.paths.check_each.Given as goal

abbrev pub invariant-reports : goal.invariant-reports
invariant-reports g l = record {
  within : l.done ≤ length l.scripts;
  so_far : AreDone g.W.Sink.held l.asked l.scripts l.fn.check l.done l.reviewer.review l.check;
}

abbrev pub decreases-reports : goal.decreases-reports
decreases-reports g l = length l.scripts - l.done
