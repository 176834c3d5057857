-- The results of a check: of each path what is counted of it, and what is listed. (This project's.)
use Rattle.std.specs.Prelude.{ℕ, ◌-◌, ◌==◌, if◌then◌else◌, List, [], ◌∷◌, Option, None, Some, length, map, slice_get, string_bytes}
use Rattle.std.specs.List.{flat_map, fold}
use Rattle.rb_report.specs.declared.check.failure.Failure.{Failure}
use Rattle.rb_report.specs.declared.check.outcome.Outcome.{Outcome}
use Rattle.rb_report.specs.declared.check.outcome.Outcome.TheVariants as outcomes
use Rattle.rb_report.specs.declared.check.totals.Totals.{Totals}
use Rattle.rb_report.specs.Counts.{of_all}
use Rattle.rb_check.specs.declared.differing.Differing.{Differing}
use Rattle.rb_check.specs.declared.script_result.PathResult.{PathResult}
use Rattle.rb_check.specs.declared.script_result.PathResult.TheVariants as paths
use Rattle.rb_check.specs.declared.script_result.ScriptResult.{ScriptResult}

-- ---- after outputs are accepted

-- all but those of these heads, unless that are all
abbrev pub after_accepting : ScriptResult → List ℕ → ScriptResult
after_accepting r left = if length left == r.left then r else record r { left = length left; accepted = r.left - length left; first = slice_get left 0 }

-- the same; or accepting failed
abbrev pub result_after : ScriptResult → List ℕ → Option Failure → ScriptResult
result_after r left None = after_accepting r left
result_after r left (Some failure) = record r { failure = Some failure }

-- ---- what is counted

abbrev pub outcome_of : ScriptResult → Outcome
outcome_of r = outcomes.Ran r.directives r.left r.accepted r.errors r.warnings

abbrev pub failure_of : Option Failure → List Outcome
failure_of None = []
failure_of (Some failure) = outcomes.Failed failure ∷ []

abbrev pub outcomes_of : PathResult → List Outcome
outcomes_of (paths.Ran r) = outcome_of r ∷ failure_of r.failure
outcomes_of (paths.Refused fault) = outcomes.Refused fault ∷ []
outcomes_of (paths.Failed failure) = outcomes.Failed failure ∷ []

abbrev pub counts_with : Totals → PathResult → Totals
counts_with t found = of_all t (outcomes_of found)

-- a path, and its result
pub record CheckedPath : Type 0 where
  pub path : List ℕ
  pub found : PathResult

abbrev pub checked_path : List ℕ → PathResult → CheckedPath
checked_path path found = record { path = path; found = found }

abbrev pub counts_of : Totals → List CheckedPath → Totals
counts_of t results = fold (λ (u : Totals) (checked : CheckedPath). counts_with u checked.found) t results

-- ---- what is listed

-- a script that differs: how many of its outputs do, of how many, and the line of the first one's head
pub record ListedScript : Type 0 where
  pub path : List ℕ
  pub directives : ℕ
  pub mismatches : ℕ
  pub line : ℕ

abbrev pub listed_as : Differing → ListedScript
listed_as d = record { path = string_bytes d.path; directives = d.directives; mismatches = d.mismatches; line = d.line }

abbrev pub listing : List Differing → List ListedScript
listing ds = map listed_as ds

-- if there is a first one
abbrev pub listed_if : List ℕ → ScriptResult → Option ℕ → List ListedScript
listed_if path r None = []
listed_if path r (Some line) = record { path = path; directives = r.directives; mismatches = r.left; line = line } ∷ []

abbrev pub listed_of : List ℕ → PathResult → List ListedScript
listed_of path (paths.Ran r) = listed_if path r r.first
listed_of path (paths.Refused fault) = []
listed_of path (paths.Failed failure) = []

abbrev pub listed_in : List CheckedPath → List ListedScript
listed_in results = flat_map (λ checked. listed_of checked.path checked.found) results
