-- What a report writes on its streams. (This project's.)
use Rattle.std.specs.Prelude.{◌≡◌, ℕ, Bool, true, false, not, if◌then◌else◌, ◌==◌, ◌&&◌, ◌||◌, nat_lt, List, [], ◌∷◌, ◌++◌, Option, None, Some, is_some, Result, Ok, Err, codes, decimal, string_bytes, length}
use Rattle.std.specs.List.{flat_map}
use Rattle.std.specs.Io.KnownBytes.{Appends}
use Rattle.std.specs.IoError.{error_kind}
use Rattle.std.specs.declared.io.Error.{Error}
use Rattle.std.specs.declared.io.ErrorKind.{ErrorKind}
use Rattle.std.specs.declared.io.ErrorKind.TheVariants as errors
use Rattle.rb_files.specs.declared.path_error.PathError.{PathError}
use Rattle.rb_script.specs.Writes.{AppendsFront}
use Rattle.rb_report.specs.declared.check.colors.Colors.{Colors}
use Rattle.rb_report.specs.declared.check.colors.Colors.TheVariants.{Off}
use Rattle.rb_report.specs.declared.check.failure.Failure.{Failure}
use Rattle.rb_report.specs.declared.check.failure.Failure.TheVariants.{NotRead, NotShown, NotWritten, OutOfMemory}
use Rattle.rb_report.specs.declared.check.outcome.Outcome.TheVariants as outcomes
use Rattle.rb_report.specs.declared.check.totals.Totals.{Totals}
use Rattle.rb_report.specs.Briefs.{brief_text}
use Rattle.rb_report.specs.Counts.{accepted_text, nothing, of_outcome, together, totals_text}
use Rattle.rb_report.specs.Failures.{failure_sentence, failure_text}
use Rattle.rb_report.specs.Names.{acts_in_line, shown_name}
use Rattle.rb_report.specs.Notices.{unaccepted_text, warning_sentence, warning_text}
use Rattle.rb_report.specs.Pieces.{noun}
use Rattle.rb_report.specs.Refusals.{fault_line, refusal_text, sentence}
use Rattle.rb_report.specs.Shown.{escape}
use Rattle.rb_script_report.specs.declared.accept_options.AcceptFilter.{AcceptFilter}
use Rattle.rb_script_report.specs.declared.view.Detail.{Detail}
use Rattle.rb_script_report.specs.declared.view.Detail.TheVariants as details
use Rattle.rb_script_report.specs.declared.warning.Warning.{Warning}
use Rattle.rb_script_report.specs.Accepting.{is_picked}
use Rattle.rb_check.specs.declared.check_request.CheckRequest.{CheckRequest}
use Rattle.rb_check.specs.declared.differing.Differing.{Differing}
use Rattle.rb_check.specs.declared.format.Format.{Format}
use Rattle.rb_check.specs.declared.format.Format.TheVariants.{Json, Github, Junit}
use Rattle.rb_check.specs.declared.kind.NoticeKind.{NoticeKind}
use Rattle.rb_check.specs.declared.kind.NoticeKind.TheVariants as kinds
use Rattle.rb_check.specs.declared.notes.Note.{Note}
use Rattle.rb_check.specs.declared.notes.Note.TheVariants as notes
use Rattle.rb_check.specs.declared.remark.Remark.{Remark}
use Rattle.rb_check.specs.declared.remark.Remark.TheVariants as remarks
use Rattle.rb_check.specs.declared.report.Report.{Report}
use Rattle.rb_check.specs.declared.report_state.ReportForm.{ReportForm}
use Rattle.rb_check.specs.declared.report_state.ReportState.{ReportState}
use Rattle.rb_check.specs.declared.visible.Showing.{Showing}
use Rattle.rb_check.specs.declared.visible.Showing.TheVariants as showings
use Rattle.rb_check.specs.Formats.{notice_text}
use Rattle.rb_check.specs.Objects.{totals_object}
use Rattle.rb_check.specs.Results.{ListedScript, listing}
use Rattle.rb_check.specs.Reviews.{quit_text}

-- ---- the state of a report

-- before it has written anything: if nothing is wanted, nothing goes to standard output
abbrev pub started : CheckRequest → ReportState
started asked = record {
  form = record { format = asked.format; is_strict = asked.is_strict };
  is_closed = asked.is_quiet;
  own = nothing;
}

-- standard output failed
abbrev pub closed : ReportState → ReportState
closed s = record s { is_closed = true; own = together s.own (of_outcome (outcomes.Failed NotShown)) }

-- memory was refused for one of its texts
abbrev pub lacking : ReportState → ReportState
lacking s = record s { own = together s.own (of_outcome (outcomes.Failed OutOfMemory)) }

-- it was refused for some text: then that is the check's status
abbrev pub lacks_memory : ReportState → Bool
lacks_memory s = not (s.own.without_memory == 0)

-- ---- what goes out

-- What is held grows by the text. If the output fails at it, it grows by a beginning; once it has failed, by nothing.
abbrev pub HeldAfter : Bool → Bool → Option (List ℕ) → Option (List ℕ) → List ℕ → Type 0
HeldAfter false false before after text = Appends before after text
HeldAfter false true before after text = AppendsFront before after text
HeldAfter true false before after text = ⊥
HeldAfter true true before after text = Appends before after []

-- the report's own failures, with that of its output
abbrev pub own_after : Bool → Bool → Totals → Totals
own_after false false own = own
own_after false true own = together own (of_outcome (outcomes.Failed NotShown))
own_after true is own = own

-- the text went out on standard output, unless that failed
pub record WentOut (old new : ReportState) (before after : Option (List ℕ)) (text : List ℕ) : Type 0 where
  pub memory : lacks_memory old ≡ false
  pub held : HeldAfter old.is_closed new.is_closed before after text
  pub own : new.own ≡ own_after old.is_closed new.is_closed old.own

-- the same, unless memory was refused for a text of the report
pub record GoesOut (old new : ReportState) (before after : Option (List ℕ)) (text : List ℕ) : Type 0 where
  pub form : new.form ≡ old.form
  pub out : lacks_memory new ≡ false → WentOut old new before after text

-- some text went out
pub record GoesOutInPart (old new : ReportState) (before after : Option (List ℕ)) : Type 0 where
  pub text : List ℕ
  pub out : GoesOut old new before after text

-- the text went out; or the call failed, and some text did
abbrev pub GoesOutIf : {X E : Type 0} → Result X E → ReportState → ReportState → Option (List ℕ) → Option (List ℕ) → List ℕ → Type 0
GoesOutIf (Ok x) old new before after text = GoesOut old new before after text
GoesOutIf (Err e) old new before after text = GoesOutInPart old new before after

-- the text was written, if the stream takes all
abbrev pub Told : Type 0 → Type 0 → Option (List ℕ) → Option (List ℕ) → List ℕ → Type 0
Told takes_before takes_after before after text = takes_before → takes_after × Appends before after text

-- the same of a report's standard output
abbrev pub Prints : {W E : Type 0} → (W → Option (List ℕ)) → Report W E → Report W E → List ℕ → Type 0
Prints held old new text = GoesOut old.state new.state (held old.output) (held new.output) text

abbrev pub PrintsPart : {W E : Type 0} → (W → Option (List ℕ)) → Report W E → Report W E → Type 0
PrintsPart held old new = GoesOutInPart old.state new.state (held old.output) (held new.output)

abbrev pub PrintsIf : {X F W E : Type 0} → Result X F → (W → Option (List ℕ)) → Report W E → Report W E → List ℕ → Type 0
PrintsIf r held old new text = GoesOutIf r old.state new.state (held old.output) (held new.output) text

-- of its stream of errors
abbrev pub Tells : {W E : Type 0} → (E → Type 0) → (E → Option (List ℕ)) → Report W E → Report W E → List ℕ → Type 0
Tells takes held old new text = Told (takes old.errors.sink) (takes new.errors.sink) (held old.errors.sink) (held new.errors.sink) text

-- the list of the scripts that differ grows by these, unless memory was refused for it
abbrev pub Lists : ReportState → List Differing → List Differing → List ListedScript → Type 0
Lists state before after scripts = lacks_memory state ≡ false → listing after ≡ listing before ++ scripts

-- neither memory nor standard output failed
pub record LosesNothing (old new : ReportState) : Type 0 where
  pub memory : lacks_memory new ≡ false
  pub output : new.is_closed ≡ old.is_closed

-- how what is about a script at a path goes out in a format; a workflow command has the path itself
abbrev pub shown_in : Option Format → List ℕ → Showing → Showing
shown_in None path showing = showing
shown_in (Some Json) path showing = showings.Json
shown_in (Some Github) path showing = if acts_in_line path then showings.Visible else showing
shown_in (Some Junit) path showing = showings.AsIs

-- the chosen colours, if bytes go out as they are
abbrev pub colors_in : Showing → Colors → Colors
colors_in showings.AsIs wanted = wanted
colors_in showings.Visible wanted = Off
colors_in showings.Json wanted = Off

-- ---- what is said of a script

-- a note about one of its lines
abbrev pub note_text : List ℕ → ℕ → List ℕ → List ℕ
note_text path line note = shown_name path ++ (codes ":" ++ (decimal line ++ (codes ": " ++ (note ++ codes "\n"))))

abbrev pub accepted_sentence : ℕ → List ℕ
accepted_sentence n = codes "accepted " ++ (decimal n ++ noun n (codes " output") (codes " outputs"))

abbrev pub remark_sentence : Remark → List ℕ
remark_sentence (remarks.Refused fault) = sentence fault
remark_sentence (remarks.Failed failure) = failure_sentence failure
remark_sentence (remarks.Warning w) = warning_sentence w.doubt
remark_sentence (remarks.Accepted n) = accepted_sentence n
remark_sentence remarks.Unaccepted = codes "nothing was accepted, since it has warnings; --force accepts all the same"
remark_sentence (remarks.Left line) = codes "this new error was not accepted; --accept-errors accepts it too"
remark_sentence (remarks.Echoes line) = codes "nothing below this error was accepted, since it may follow from it; --accept-errors accepts it too"
remark_sentence (remarks.Matches line) = codes "there is nothing to accept: the output is the expected one"

-- to people: a failure goes to the stream of errors, and a new error that is left is shown with its directive
abbrev pub people_text : List ℕ → Remark → List ℕ
people_text path (remarks.Refused fault) = refusal_text path fault
people_text path (remarks.Failed failure) = []
people_text path (remarks.Warning w) = warning_text path w.line w.doubt
people_text path (remarks.Accepted n) = accepted_text path n
people_text path remarks.Unaccepted = unaccepted_text path
people_text path (remarks.Left line) = []
people_text path (remarks.Echoes line) = note_text path line (remark_sentence (remarks.Echoes line))
people_text path (remarks.Matches line) = note_text path line (remark_sentence (remarks.Matches line))

abbrev pub remark_line : Remark → Option ℕ
remark_line (remarks.Refused fault) = fault_line fault
remark_line (remarks.Failed failure) = None
remark_line (remarks.Warning w) = Some w.line
remark_line (remarks.Accepted n) = None
remark_line remarks.Unaccepted = None
remark_line (remarks.Left line) = Some line
remark_line (remarks.Echoes line) = Some line
remark_line (remarks.Matches line) = Some line

abbrev pub remark_kind : Remark → NoticeKind
remark_kind (remarks.Refused fault) = kinds.Refused
remark_kind (remarks.Failed failure) = kinds.Failed
remark_kind (remarks.Warning w) = kinds.Warning
remark_kind (remarks.Accepted n) = kinds.Accepted
remark_kind remarks.Unaccepted = kinds.Left
remark_kind (remarks.Left line) = kinds.Left
remark_kind (remarks.Echoes line) = kinds.Left
remark_kind (remarks.Matches line) = kinds.Left

-- to programs
abbrev pub programs_text : Format → Bool → List ℕ → Remark → List ℕ
programs_text format strict path remark = notice_text format strict path (remark_line remark) (remark_kind remark) (remark_sentence remark)

-- the text, to people or in the format for programs
abbrev pub in_form : Option Format → List ℕ → (Format → List ℕ) → List ℕ
in_form None people programs = people
in_form (Some format) people programs = programs format

abbrev pub remark_text : ReportForm → List ℕ → Remark → List ℕ
remark_text form path remark = in_form form.format (people_text path remark) (λ format. programs_text format form.is_strict path remark)

-- its lines that look like a slip
abbrev pub warnings_text : ReportForm → List ℕ → List Warning → List ℕ
warnings_text form path ws = flat_map (λ w. remark_text form path (remarks.Warning w)) ws

-- a new error that is left, if its head is picked
abbrev pub left_one : ReportForm → List ℕ → AcceptFilter → ℕ → List ℕ
left_one form path picked line = if is_picked picked line then remark_text form path (remarks.Left line) else []

abbrev pub left_text : ReportForm → List ℕ → AcceptFilter → List ℕ → List ℕ
left_text form path picked left = flat_map (λ line. left_one form path picked line) left

-- ---- the beginning and the end

abbrev pub beginning : Format → List ℕ
beginning Json = []
beginning Github = []
beginning Junit = codes "<?xml version=\"1.0\" encoding=\"UTF-8\"?>\n<testsuites name=\"raftbench\">\n"

abbrev pub begun_text : ReportForm → List ℕ
begun_text form = in_form form.format [] beginning

abbrev pub differing_text : List Differing → List ℕ
differing_text ds = flat_map (λ d. brief_text (string_bytes d.path) d.mismatches d.directives d.line) ds

-- the scripts that differ, if there are any, and an empty line
abbrev pub list_text : List Differing → List ℕ
list_text ds = if length ds == 0 then [] else differing_text ds ++ codes "\n"

-- if they are to be listed
abbrev pub listed_text : Bool → List Differing → List ℕ
listed_text lists ds = if lists then list_text ds else []

abbrev pub ending : Totals → Format → List ℕ
ending t Json = totals_object t
ending t Github = []
ending t Junit = codes "</testsuites>\n"

-- to people the list and the last line
abbrev pub end_text : Bool → ReportForm → List Differing → Totals → ℕ → List ℕ
end_text lists form ds t ms = in_form form.format (listed_text lists ds ++ totals_text t ms) (ending t)

-- the scripts that differ are listed, where there are several scripts and not each has its line already
abbrev pub lists : Detail → ℕ → Bool
lists details.Brief n = false
lists details.First n = nat_lt 1 n
lists details.Differing n = nat_lt 1 n
lists details.All n = nat_lt 1 n

-- nothing is said at the end if there is no script, unless programs read it
abbrev pub last_text : CheckRequest → ℕ → ReportForm → List Differing → Totals → ℕ → List ℕ
last_text asked n form ds t milliseconds = if nat_lt 0 n || is_some form.format then end_text (lists asked.shown n) form ds t milliseconds else []

-- ---- the stream of errors

-- the cursor goes back to the line's first column, and the line is cleared (ECMA-48)
abbrev pub clearing : List ℕ
clearing = 13 ∷ escape ∷ codes "[K"

abbrev pub cleared : Bool → List ℕ
cleared shows_progress = if shows_progress then clearing else []

abbrev pub progress_text : ℕ → ℕ → List ℕ
progress_text done all = clearing ++ (decimal done ++ (codes " of " ++ (decimal all ++ codes " scripts")))

-- whether the reader has closed the pipe
abbrev pub is_broken_pipe : ErrorKind → Bool
is_broken_pipe errors.BrokenPipe = true
is_broken_pipe _ = false

abbrev pub is_reader_gone : {X : Type 0} → Result X Error → Bool
is_reader_gone (Ok x) = false
is_reader_gone (Err error) = is_broken_pipe (error_kind error)

-- standard output failed: it is said, unless its reader has gone
abbrev pub lost_output_text : {X : Type 0} → Bool → Result X Error → List ℕ
lost_output_text shows handed_on = if is_reader_gone handed_on then [] else cleared shows ++ failure_text (codes "raftbench") NotShown

-- whether the failure alone says too little
abbrev pub says_little : Failure → Bool
says_little NotRead = true
says_little NotWritten = true
says_little other = false

-- then the system's words follow, if there is an error of the system's
abbrev pub says_cause : PathError → Bool
says_cause error = says_little error.failure && is_some error.cause

-- what the system says of it, in one line
abbrev pub cause_line : List ℕ → List ℕ → List ℕ
cause_line path words = shown_name path ++ (codes ": " ++ (shown_name words ++ codes "\n"))

abbrev pub cause_text : Bool → List ℕ → List ℕ → List ℕ
cause_text says path words = if says then cause_line path words else []

-- why a path failed, and what the system says of it
abbrev pub failure_lines : List ℕ → PathError → List ℕ → List ℕ
failure_lines path error words = failure_text path error.failure ++ cause_text (says_cause error) path words

-- a new file that could be neither used nor removed
abbrev pub left_file_text : List ℕ → List ℕ
left_file_text path = shown_name path ++ codes ": this new file could not be removed\n"

-- a note about an output that no script can expect
abbrev pub long_line_text : List ℕ → ℕ → List ℕ
long_line_text path line = note_text path line (codes "this output has a line of more than 65,536 bytes, which no script can expect")

abbrev pub note_line : Note → List ℕ
note_line (notes.Failure path failure) = failure_text path.now failure
note_line (notes.Cause path words) = cause_line path.now words.now
note_line (notes.LeftFile path) = left_file_text path.now
note_line (notes.LongLine path line) = long_line_text path.now line
note_line (notes.Quit accepted left) = quit_text accepted left
note_line (notes.Totals totals milliseconds) = totals_text totals milliseconds
