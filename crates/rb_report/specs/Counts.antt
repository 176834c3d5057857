-- What came of all paths, by numbers. (This project's.)
use Rattle.std.specs.Prelude.{ℕ, ◌+◌, ◌-◌, ◌/◌, ◌%◌, ◌^◌, ◌==◌, ◌&&◌, ◌||◌, min, max, Bool, not, if◌then◌else◌, List, [], ◌∷◌, ◌++◌, sum_by, codes, decimal}
use Rattle.rb_script.specs.declared.fault.ScriptFault.{ScriptFault}
use Rattle.rb_script.specs.declared.fault.ScriptFault.TheVariants as faults
use Rattle.rb_report.specs.declared.check.failure.Failure.{Failure}
use Rattle.rb_report.specs.declared.check.failure.Failure.TheVariants as failures
use Rattle.rb_report.specs.declared.check.outcome.Outcome.{Outcome}
use Rattle.rb_report.specs.declared.check.outcome.Outcome.TheVariants as outcomes
use Rattle.rb_report.specs.declared.check.status.Status.{Status}
use Rattle.rb_report.specs.declared.check.status.Status.TheVariants as statuses
use Rattle.rb_report.specs.declared.check.totals.Totals.{Totals}
use Rattle.rb_report.specs.Names.{shown_name}
use Rattle.rb_report.specs.Pieces.{count_text, noun}
use Rattle.rb_report.specs.Statuses.{code_of}

abbrev pub nothing : Totals
nothing = record { scripts = 0; directives = 0; mismatches = 0; accepted = 0; errors = 0; warnings = 0; refused = 0; failed = 0; without_memory = 0 }

-- a script that ran
abbrev pub one_run : ℕ → ℕ → ℕ → ℕ → ℕ → Totals
one_run directives mismatches accepted errors warnings =
    record { scripts = 1; directives = directives; mismatches = mismatches; accepted = accepted; errors = errors; warnings = warnings; refused = 0; failed = 0; without_memory = 0 }

abbrev pub one_refusal : Totals
one_refusal = record { scripts = 1; directives = 0; mismatches = 0; accepted = 0; errors = 0; warnings = 0; refused = 1; failed = 0; without_memory = 0 }

-- a failure, for want of memory or not
abbrev pub one_failure : ℕ → Totals
one_failure without_memory = record { scripts = 0; directives = 0; mismatches = 0; accepted = 0; errors = 0; warnings = 0; refused = 0; failed = 1; without_memory = without_memory }

abbrev pub of_refused : ScriptFault → Totals
of_refused faults.OutOfMemory = one_failure 1
of_refused fault = one_refusal

abbrev pub of_failed : Failure → Totals
of_failed failures.OutOfMemory = one_failure 1
of_failed other = one_failure 0

-- the outcome of one path
abbrev pub of_outcome : Outcome → Totals
of_outcome (outcomes.Ran directives mismatches accepted errors warnings) = one_run directives mismatches accepted errors warnings
of_outcome (outcomes.Refused fault) = of_refused fault
of_outcome (outcomes.Failed failure) = of_failed failure

-- numbers stay at the greatest that fits
abbrev pub plus : ℕ → ℕ → ℕ
plus a b = min (a + b) (2 ^ 64 - 1)

abbrev pub together : Totals → Totals → Totals
together a b = record {
  scripts = plus a.scripts b.scripts;
  directives = plus a.directives b.directives;
  mismatches = plus a.mismatches b.mismatches;
  accepted = plus a.accepted b.accepted;
  errors = plus a.errors b.errors;
  warnings = plus a.warnings b.warnings;
  refused = plus a.refused b.refused;
  failed = plus a.failed b.failed;
  without_memory = plus a.without_memory b.without_memory;
}

-- no output differs; and if it is strict, there is no error that isn't said to be expected, and no warning
abbrev pub is_clean : Bool → Totals → Bool
is_clean strict t = t.mismatches == 0 && (not strict || (t.errors == 0 && t.warnings == 0))

abbrev pub status_of : Bool → Totals → Status
status_of strict t =
    if t.without_memory == 0
    then (if t.failed == 0 then (if t.refused == 0 then (if is_clean strict t then statuses.Matched else statuses.Mismatched) else statuses.Refused) else statuses.Failed)
    else statuses.OutOfMemory

-- ---- the outcomes of several paths

abbrev pub of_all : Totals → List Outcome → Totals
of_all t [] = t
of_all t (o ∷ os) = of_all (together t (of_outcome o)) os

-- a count over all paths, up to the greatest number that fits
abbrev pub sum_of : (Totals → ℕ) → List Outcome → ℕ
sum_of count os = min (sum_by (λ o. count (of_outcome o)) os) (2 ^ 64 - 1)

-- the status that is met by what came of one path
abbrev pub status_met : Bool → Outcome → Status
status_met strict (outcomes.Ran directives mismatches accepted errors warnings) =
    if mismatches == 0 && (not strict || (errors == 0 && warnings == 0)) then statuses.Matched else statuses.Mismatched
status_met strict (outcomes.Refused faults.OutOfMemory) = statuses.OutOfMemory
status_met strict (outcomes.Refused fault) = statuses.Refused
status_met strict (outcomes.Failed failures.OutOfMemory) = statuses.OutOfMemory
status_met strict (outcomes.Failed failure) = statuses.Failed

-- the greatest of the statuses that were met, by its number
abbrev pub greatest : Bool → List Outcome → ℕ
greatest strict [] = 0
greatest strict (o ∷ os) = max (code_of (status_met strict o)) (greatest strict os)

-- ---- the last line

-- seconds, with three digits after the point
abbrev pub seconds_text : ℕ → List ℕ
seconds_text ms = decimal (ms / 1000) ++ (codes "." ++ (decimal (ms / 100 % 10) ++ (decimal (ms / 10 % 10) ++ (decimal (ms % 10) ++ codes " s\n"))))

-- the part after the mismatches
abbrev pub rest_text : Totals → ℕ → List ℕ
rest_text t ms =
    decimal t.refused ++ (codes " refused" ++ (count_text t.errors (noun t.errors (codes " error") (codes " errors")) ++ (count_text t.warnings (noun t.warnings (codes " warning") (codes " warnings")) ++ (count_text t.accepted (codes " accepted") ++ (count_text t.failed (codes " failed") ++ (codes ", " ++ seconds_text ms))))))

abbrev pub totals_text : Totals → ℕ → List ℕ
totals_text t ms =
    decimal t.scripts
    ++ (noun t.scripts (codes " script, ") (codes " scripts, ")
    ++ (decimal t.directives
    ++ (noun t.directives (codes " directive, ") (codes " directives, ")
    ++ (decimal t.mismatches
    ++ (noun t.mismatches (codes " mismatch, ") (codes " mismatches, ")
    ++ rest_text t ms)))))

-- a script into which actual outputs were written
abbrev pub accepted_text : List ℕ → ℕ → List ℕ
accepted_text path outputs = shown_name path ++ (codes ": accepted " ++ (decimal outputs ++ (noun outputs (codes " output") (codes " outputs") ++ codes "\n")))
