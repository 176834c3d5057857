-- What was written of a script's report, and what was found. (This project's.)
use Rattle.std.specs.Prelude.{◌≡◌, ◌≢◌, ℕ, false, List, [], Option, Result, Ok, Err}
use Rattle.std.specs.Io.KnownBytes.{Appends}
use Rattle.std.specs.List.{list_any}
use Rattle.rb_script.specs.Lines.{Line}
use Rattle.rb_script.specs.Script.{PlainScript}
use Rattle.rb_script.specs.Writes.{AppendsFront}
use Rattle.rb_replay.specs.Run.{outputs}
use Rattle.rb_replay.specs.Report.{mismatches}
use Rattle.rb_script_report.specs.declared.fault.ShowFault.{ShowFault}
use Rattle.rb_script_report.specs.declared.fault.ShowFault.TheVariants.{Writing, OutOfMemory}
use Rattle.rb_script_report.specs.declared.summary.ScriptSummary.{ScriptSummary}
use Rattle.rb_script_report.specs.Checked.{first_head}
use Rattle.rb_script_report.specs.declared.view.Detail.{Detail}
use Rattle.rb_script_report.specs.declared.view.Detail.TheVariants as shown
use Rattle.rb_script_report.specs.Errors.{is_error, error_count}

-- the text was written; where the writer failed a beginning of it, and for want of memory nothing
abbrev pub Shows : {X : Type 0} → Result X ShowFault → Option (List ℕ) → Option (List ℕ) → List ℕ → Type 0
Shows (Ok x) old new text = Appends old new text
Shows (Err Writing) old new text = AppendsFront old new text
Shows (Err OutOfMemory) old new text = old ≡ new

-- what was found of a script of these lines, whose heads begin on those
abbrev pub summary_of : List Line → List ℕ → PlainScript → ScriptSummary
summary_of ls heads s = record { first = first_head heads (mismatches s); errors = error_count ls heads (outputs s) }

-- Where not all are shown: each directive expects its output, and no output is an error.
pub record IsQuiet (wanted : Detail) (s : PlainScript) : Type 0 where
  pub not_all : wanted ≢ shown.All
  pub same : mismatches s ≡ []
  pub no_error : list_any is_error (outputs s) ≡ false
