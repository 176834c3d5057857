-- Paths that fail before a script is checked. (This project's.)
use Rattle.std.specs.Prelude.{ℕ, ◌==◌, Bool, if◌then◌else◌, List, [], ◌∷◌, ◌++◌, codes, length, map}
use Rattle.std.specs.List.{flat_map}
use Rattle.rb_files.specs.declared.finding.FailedPath.{FailedPath}
use Rattle.rb_files.specs.declared.finding.Found.{Found}
use Rattle.rb_report.specs.declared.check.failure.Failure.{Failure}
use Rattle.rb_report.specs.declared.check.failure.Failure.TheVariants.{NoScripts, OutOfMemory}
use Rattle.rb_check.specs.declared.remark.Remark.TheVariants as remarks
use Rattle.rb_check.specs.declared.report_state.ReportForm.{ReportForm}
use Rattle.rb_check.specs.declared.script_result.PathResult.TheVariants as paths
use Rattle.rb_check.specs.Results.{CheckedPath, checked_path}
use Rattle.rb_check.specs.Shown.{remark_text}

abbrev pub failed_path : List ℕ → Failure → CheckedPath
failed_path path failure = checked_path path (paths.Failed failure)

abbrev pub lost_path : FailedPath → CheckedPath
lost_path lost = failed_path lost.path.items lost.error.failure

-- a failure of the check as a whole, if there is one
abbrev pub whole_failure : Bool → Failure → List CheckedPath
whole_failure has_failed failure = if has_failed then failed_path (codes "raftbench") failure ∷ [] else []

abbrev pub lost_results : Found → List CheckedPath
lost_results found = map lost_path found.lost.items ++ (whole_failure found.is_cut OutOfMemory ++ whole_failure (length found.scripts.items == 0) NoScripts)

-- the notices to programs
abbrev pub path_text : ReportForm → FailedPath → List ℕ
path_text form lost = remark_text form lost.path.items (remarks.Failed lost.error.failure)

abbrev pub paths_text : ReportForm → List FailedPath → List ℕ
paths_text form lost = flat_map (path_text form) lost

abbrev pub whole_text : ReportForm → Bool → Failure → List ℕ
whole_text form has_failed failure = if has_failed then remark_text form (codes "raftbench") (remarks.Failed failure) else []

abbrev pub lost_text : ReportForm → Found → List ℕ
lost_text form found = paths_text form found.lost.items ++ (whole_text form found.is_cut OutOfMemory ++ whole_text form (length found.scripts.items == 0) NoScripts)
