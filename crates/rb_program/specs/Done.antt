-- What each subcommand for one script does. (This project's.)
use Rattle.std.specs.Prelude.{◌≡◌, ℕ, ◌⊎◌, true, false, List, Option, Some, Result, Ok, Err, IsErrAnd, codes, option_map, string_bytes}
use Rattle.std.specs.Str.{bytes_eq}
use Rattle.rb_args.specs.declared.choice.CommandChoice.{CommandChoice}
use Rattle.rb_replay.specs.Start.{is_checkpoint_interval}
use Rattle.rb_report.specs.declared.check.status.Status.{Status}
use Rattle.rb_report.specs.declared.check.status.Status.TheVariants as statuses
use Rattle.rb_bench.specs.declared.running.Mode.{Mode}
use Rattle.rb_bench.specs.declared.running.Mode.TheVariants as modes
use Rattle.rb_bench.specs.Runs.{Answers, RunsOver}
use Rattle.rb_bench.specs.Serves.{ServesOut}
use Rattle.rb_view.specs.declared.chart.part.ChartPart.{ChartPart}
use Rattle.rb_program.specs.declared.document.DocumentKind.{DocumentKind}
use Rattle.rb_program.specs.declared.document.DocumentKind.TheVariants as kinds
use Rattle.rb_program.specs.declared.program_error.ProgramError.{ProgramError}
use Rattle.rb_program.specs.declared.program_error.ProgramError.TheVariants as refusals
use Rattle.rb_program.specs.declared.usage_error.UsageError.{UsageError}
use Rattle.rb_program.specs.declared.work.Work.{Work}
use Rattle.rb_program.specs.declared.work.Work.TheVariants as works
use Rattle.rb_program.specs.Choices.{IsWrongFrom, IsWrongUntil, line_asked, shown_name}
use Rattle.rb_program.specs.Documents.{DocumentsOver}
use Rattle.rb_program.specs.Looks.{IsLookAt}
use Rattle.rb_program.specs.Refusals.{EndsAs}
use Rattle.rb_program.specs.Scripts.{IsOf, IsOfBytes, IsOfInput, IsOfScript, Sources}
use Rattle.rb_program.specs.Work.{IsRefused, NamesEvery}

-- the report of the script, or its text with its outputs
abbrev pub IsRun : Sources → List ℕ → Mode → ℕ → Result Status ProgramError → Type 0
IsRun sources file mode every result = is_checkpoint_interval every ≡ true → IsOfScript sources file (λ all left ended. EndsAs (RunsOver mode all left) ended) result

-- its text with its outputs, of which notes are made
pub record IsNoted (sources : Sources) (file : List ℕ) (result : Result Status ProgramError) : Type 0 where
  pub of_input : bytes_eq file (codes "-") ≡ true → IsOfInput sources.Input sources.input (λ bytes ended. EndsAs (Answers modes.Rewrite bytes) ended) result
  pub of_file : bytes_eq file (codes "-") ≡ false → IsOfBytes sources.File sources.files file (λ bytes ended. EndsAs (Answers modes.Rewrite bytes) ended) result

-- a session on it, over standard input
abbrev pub IsServed : Sources → List ℕ → ℕ → Result Status ProgramError → Type 0
IsServed sources file every result =
    is_checkpoint_interval every ≡ true
    → IsOfBytes sources.File sources.files file (λ script ended. IsOf sources.Input sources.input (λ all left talked. EndsAs (λ served old new. ServesOut (Some all) served script every old new) talked) ended) result

-- a document of it, under its name
abbrev pub IsDocumented : Sources → List ℕ → DocumentKind → Result Status ProgramError → Type 0
IsDocumented sources file kind result = IsOfScript sources file (λ all left ended. EndsAs (DocumentsOver kind (shown_name file) all left) ended) result

-- a document that has too little room is a refusal
abbrev pub unless_refused : ProgramError → Result Status ProgramError → Result Status ProgramError
unless_refused refusal (Ok statuses.Refused) = Err refusal
unless_refused refusal ended = ended

abbrev pub IsPaged : Sources → List ℕ → Result Status ProgramError → Type 0
IsPaged sources file result = (ended : Result Status ProgramError) × IsDocumented sources file kinds.Page ended × (result ≡ unless_refused refusals.PageTooLarge ended)

-- the picture of the part between two lines, where these are lines
abbrev pub IsCharted : Sources → List ℕ → Option (List ℕ) → Option (List ℕ) → Result Status ProgramError → Type 0
IsCharted sources file from until result =
    (IsErrAnd result (λ refusal. IsWrongFrom from refusal) ⊎ IsErrAnd result (λ refusal. IsWrongUntil until refusal))
    ⊎ ((part : ChartPart) × (line_asked from ≡ Some part.from) × (line_asked until ≡ Some part.until)
    × ((ended : Result Status ProgramError) × IsDocumented sources file (kinds.Chart part) ended × (result ≡ unless_refused refusals.ChartTooLarge ended)))

-- what comes of a work on the file
unfoldable pub IsDone : Sources → List ℕ → Option (List ℕ) → Option (List ℕ) → Work → Result Status ProgramError → Type 0
IsDone sources file from until (works.Report n) result = IsRun sources file modes.Run n result
IsDone sources file from until (works.Rewriting n) result = IsRun sources file modes.Rewrite n result
IsDone sources file from until works.Noting result = IsNoted sources file result
IsDone sources file from until (works.Session n) result = IsServed sources file n result
IsDone sources file from until works.Look result = IsLookAt sources.File sources.files file result
IsDone sources file from until works.Page result = IsPaged sources file result
IsDone sources file from until works.Chart result = IsCharted sources file from until result
IsDone sources file from until works.Trace result = IsDocumented sources file kinds.Trace result

-- the same result, with the text after `--every` if that is what is wrong
abbrev pub IsWithEvery : Option (List ℕ) → Result Status ProgramError → Result Status ProgramError → Type 0
IsWithEvery every (Ok status) result = result ≡ Ok status
IsWithEvery every (Err refusal) result = IsErrAnd result (λ told. NamesEvery every refusal told)

-- what comes of a work on the file, as the options ask for it
abbrev pub IsWorked : Sources → CommandChoice → List ℕ → Work → Result Status ProgramError → Type 0
IsWorked sources choice file work result =
    (ended : Result Status ProgramError) × IsDone sources file (option_map string_bytes choice.from) (option_map string_bytes choice.until) work ended
    × IsWithEvery (option_map string_bytes choice.every) ended result

-- what comes of a task on the file: what can't be done is refused
abbrev pub IsCarriedOut : Sources → CommandChoice → List ℕ → Result Work UsageError → Result Status ProgramError → Type 0
IsCarriedOut sources choice file (Err misuse) result = IsRefused (option_map string_bytes choice.every) misuse result
IsCarriedOut sources choice file (Ok work) result = IsWorked sources choice file work result
