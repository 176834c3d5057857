-- What a report says when outputs of a script are accepted. (This project's.)
use Rattle.std.specs.Prelude.{◌≡◌, ◌≢◌, ℕ, ◌==◌, length, Bool, true, false, nat_lt, if◌then◌else◌, List, [], ◌++◌, Option, None, Some}
use Rattle.std.specs.List.{list_any}
use Rattle.rb_script.specs.Reads.{Reads}
use Rattle.rb_replay.specs.Report.{mismatches}
use Rattle.rb_replay.specs.Run.{outputs}
use Rattle.rb_report.specs.declared.check.failure.Failure.{Failure}
use Rattle.rb_report.specs.declared.check.failure.Failure.TheVariants.{NotWritten, OutOfMemory}
use Rattle.rb_report.specs.Failures.{failure_text}
use Rattle.rb_script_report.specs.declared.accept_options.AcceptFilter.{AcceptFilter}
use Rattle.rb_script_report.specs.declared.accept_options.AcceptFilter.TheVariants as picks
use Rattle.rb_script_report.specs.declared.accept_options.AcceptOptions.{AcceptOptions}
use Rattle.rb_script_report.specs.declared.written.AcceptFault.{AcceptFault}
use Rattle.rb_script_report.specs.declared.written.AcceptFault.TheVariants as faults
use Rattle.rb_script_report.specs.Accepting.{accepted, accepted_of, all_left, left_heads}
use Rattle.rb_script_report.specs.Refusing.{TellsAcceptFault}
use Rattle.rb_check.specs.declared.remark.Remark.TheVariants as remarks
use Rattle.rb_check.specs.declared.report.Report.{Report}
use Rattle.rb_check.specs.declared.report_state.ReportForm.{ReportForm}
use Rattle.rb_check.specs.declared.script_result.ScriptResult.{ScriptResult}
use Rattle.rb_check.specs.Results.{result_after}
use Rattle.rb_check.specs.Shown.{LosesNothing, Tells, cause_text, cleared, in_form, left_text, long_line_text, remark_text}
use Rattle.rb_check.specs.Subjects.{PlainChecked, result_of}

-- ---- the outputs that are left

-- the lines of their heads
abbrev pub left_in : AcceptOptions → PlainChecked → List ℕ
left_in wanted c = left_heads wanted c.layout.text c.layout.heads.items c.script.blocks (outputs c.script)

-- to people: each that is picked, with its directive
abbrev pub left_shown : ReportForm → AcceptOptions → PlainChecked → List ℕ
left_shown form wanted c = in_form form.format (all_left wanted c.layout.text c.path c.layout.heads.items c.script.blocks (outputs c.script)) (λ _. [])

-- below a new error that is left nothing is accepted, which is said if an output is left there
abbrev pub echoes_text : ReportForm → List ℕ → AcceptFilter → List ℕ → List ℕ
echoes_text form path picks.All left = []
echoes_text form path (picks.Heads heads) left = []
echoes_text form path (picks.UpTo line) left = if list_any (λ head. nat_lt line head) left then remark_text form path (remarks.Echoes line) else []

-- what is said of them all
abbrev pub leaving_text : ReportForm → AcceptOptions → PlainChecked → List ℕ
leaving_text form wanted c = left_text form c.path wanted.picked (left_in wanted c) ++ (left_shown form wanted c ++ echoes_text form c.path wanted.picked (left_in wanted c))

-- ---- what became of the others

-- n outputs differ: how many of them were accepted, if any was; or to programs why none was
abbrev pub ended_by : ReportForm → List ℕ → ℕ → ScriptResult → Option Failure → List ℕ
ended_by form path n r None = if r.left == n then [] else remark_text form path (remarks.Accepted r.accepted)
ended_by form path n r (Some failure) = remark_text form path (remarks.Failed failure)

abbrev pub ended_text : ReportForm → PlainChecked → ScriptResult → List ℕ
ended_text form c r = ended_by form c.path (length (mismatches c.script)) r r.failure

-- ---- a script that can't be written

abbrev pub refusal_failure : AcceptFault → Failure
refusal_failure (faults.BadOutput line) = NotWritten
refusal_failure faults.TooLong = NotWritten
refusal_failure faults.OutOfMemory = OutOfMemory

-- after the failure, on the stream of errors: the line of an output that no script can expect
abbrev pub refusal_note : List ℕ → AcceptFault → List ℕ
refusal_note path (faults.BadOutput line) = long_line_text path line
refusal_note path faults.TooLong = []
refusal_note path faults.OutOfMemory = []

-- whether its own words say why
abbrev pub refusal_says : AcceptFault → Bool
refusal_says (faults.BadOutput line) = false
refusal_says faults.TooLong = true
refusal_says faults.OutOfMemory = false

abbrev pub refusal_text : List ℕ → AcceptFault → List ℕ → List ℕ
refusal_text path fault words = failure_text path (refusal_failure fault) ++ (cause_text (refusal_says fault) path words ++ refusal_note path fault)

-- the stream of errors has it, if nothing of the report itself failed
abbrev pub TellsRefusal : {W E : Type 0} → (E → Type 0) → (E → Option (List ℕ)) → Report W E → Report W E → List ℕ → AcceptFault → Type 0
TellsRefusal takes held old new path fault = LosesNothing old.state new.state → (words : List ℕ) × Tells takes held old new (cleared old.errors.shows_progress ++ refusal_text path fault words)

-- ---- what goes out

-- Those that are left are named, and it is said what became of the others. Or what is accepted can't be written: then only that is said, and the stream of
-- errors has the fault.
pub data Accepts (tells : AcceptFault → Type 0) (form : ReportForm) (wanted : AcceptOptions) (c : PlainChecked) (r : ScriptResult) (text : List ℕ) : Type 0 where
  tried : r ≡ result_after (result_of c) (left_in wanted c) r.failure → text ≡ leaving_text form wanted c ++ ended_text form c r → Accepts tells form wanted c r text
  refused : (fault : AcceptFault) → TellsAcceptFault fault c.layout.heads.items c.script (accepted_of wanted c.layout.text c.layout.heads.items c.script.blocks (outputs c.script)) → tells fault
      → r ≡ result_after (result_of c) (left_in wanted c) (Some (refusal_failure fault)) → text ≡ ended_text form c r → Accepts tells form wanted c r text

-- outputs are said to be accepted only after a text was written that is the script with them
abbrev pub WritesAccepted : (List ℕ → Type 0) → AcceptOptions → PlainChecked → ScriptResult → Type 0
WritesAccepted is_written wanted c r = r.failure ≡ None → r.left ≢ length (mismatches c.script) → (bytes : List ℕ) × is_written bytes × Reads bytes (accepted wanted c.layout.text c.layout.heads.items c.script)
