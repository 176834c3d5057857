-- Which refusal a fault becomes, and the status of each. (This project's; the kinds of clap's errors are clap's.)
use Rattle.std.specs.Prelude.{◌≡◌, ℕ, ◌⊎◌, Bool, if◌then◌else◌, List, Option, Result, Ok, Err, string_bytes}
use Rattle.std.specs.declared.io.ErrorKind.{ErrorKind as IoKind}
use Rattle.std.specs.declared.io.ErrorKind.TheVariants as io_kinds
use Rattle.clap.specs.Values.{kind_of}
use Rattle.clap.specs.declared.error.kind.ErrorKind.{ErrorKind}
use Rattle.clap.specs.declared.error.kind.ErrorKind.TheVariants as kinds
use Rattle.rb_script.specs.declared.fault.ScriptFault.{ScriptFault}
use Rattle.rb_script.specs.declared.fault.ScriptFault.TheVariants as scripts
use Rattle.rb_script.specs.declared.sink.WriteFault.{WriteFault}
use Rattle.rb_text.specs.declared.reading.ReadFault.{ReadFault}
use Rattle.rb_text.specs.declared.reading.ReadFault.TheVariants as reads
use Rattle.rb_args.specs.declared.choice.ChoiceFault.{ChoiceFault}
use Rattle.rb_args.specs.declared.choice.ChoiceFault.TheVariants as choices
use Rattle.rb_bench.specs.declared.fault.BenchFault.{BenchFault}
use Rattle.rb_bench.specs.declared.fault.BenchFault.TheVariants as faults
use Rattle.rb_report.specs.declared.check.status.Status.{Status}
use Rattle.rb_report.specs.declared.check.status.Status.TheVariants as statuses
use Rattle.rb_program.specs.declared.program_error.ProgramError.{ProgramError}
use Rattle.rb_program.specs.declared.program_error.ProgramError.TheVariants as refusals
use Rattle.rb_program.specs.declared.usage_error.UsageError.TheVariants as misuses

-- ---- which refusal a fault becomes

-- of a run
abbrev pub of_bench : BenchFault → ProgramError
of_bench faults.Spacing = refusals.Usage misuses.Spacing
of_bench (faults.Script fault) = refusals.Script fault
of_bench faults.Io = refusals.Io
of_bench faults.OutOfMemory = refusals.OutOfMemory

-- of a script
abbrev pub of_script : ScriptFault → ProgramError
of_script scripts.OutOfMemory = refusals.OutOfMemory
of_script fault = refusals.Script fault

-- of reading
abbrev pub of_reading : ReadFault → ProgramError
of_reading reads.Io = refusals.Io
of_reading reads.OutOfMemory = refusals.OutOfMemory

-- of writing; what was written is what was asked for
abbrev pub of_writing : {X : Type 0} → Result X WriteFault → Result Status ProgramError
of_writing (Ok x) = Ok statuses.Matched
of_writing (Err fault) = Err refusals.Io

-- of the arguments
abbrev pub of_choice : ChoiceFault → ProgramError
of_choice (choices.Refused error) = refusals.Clap error
of_choice choices.OutOfMemory = refusals.OutOfMemory

-- of the system, by the kind of its error
abbrev pub of_kind : IoKind → ProgramError
of_kind io_kinds.OutOfMemory = refusals.OutOfMemory
of_kind _ = refusals.Io

-- the status of a run stays, and its fault becomes a refusal
abbrev pub of_run : Result Status BenchFault → Result Status ProgramError
of_run (Ok status) = Ok status
of_run (Err fault) = Err (of_bench fault)

-- what comes of a run that answers so: its status, or the refusal of its fault; or there was no memory for the output
abbrev pub EndsAs : (Result Status BenchFault → Option (List ℕ) → Option (List ℕ) → Type 0) → Result Status ProgramError → Type 0
EndsAs answers (Ok status) = (before : Option (List ℕ)) × (after : Option (List ℕ)) × answers (Ok status) before after
EndsAs answers (Err refusal) =
    ((fault : BenchFault) × (before : Option (List ℕ)) × (after : Option (List ℕ)) × answers (Err fault) before after × (refusal ≡ of_bench fault))
    ⊎ (refusal ≡ refusals.OutOfMemory)

abbrev pub IsFolder : List ℕ → ProgramError → Type 0
IsFolder file (refusals.Folder path) = string_bytes path ≡ file
IsFolder file refusal = ⊥

-- failed input may be told as that of a folder, of this path; each other refusal stays
abbrev pub Explains : List ℕ → ProgramError → ProgramError → Type 0
Explains file refusals.Io told = IsFolder file told ⊎ (told ≡ refusals.Io)
Explains file refusal told = told ≡ refusal

-- a file that can't be opened is failed input, whose path is named, if there is memory for it
abbrev pub IsUnopened : List ℕ → ProgramError → Type 0
IsUnopened file (refusals.Unopened path error) = string_bytes path ≡ file
IsUnopened file refusal = refusal ≡ refusals.Io

-- ---- the status of a refusal

-- help and the version are what was asked for, and are written or not; all else is a mistake in the words
abbrev pub status_by_kind : ErrorKind → Bool → Status
status_by_kind kinds.DisplayHelp went_out = if went_out then statuses.Matched else statuses.Failed
status_by_kind kinds.DisplayVersion went_out = if went_out then statuses.Matched else statuses.Failed
status_by_kind _ went_out = statuses.BadUsage

-- the status, whether or not the text went out
abbrev pub EndsByKind : ErrorKind → Status → Type 0
EndsByKind kind status = (went_out : Bool) × (status ≡ status_by_kind kind went_out)

-- the status that a refusal ends with
abbrev pub EndsWith : ProgramError → Status → Type 0
EndsWith (refusals.Clap error) status = EndsByKind (kind_of error) status
EndsWith (refusals.Usage misuse) status = status ≡ statuses.BadUsage
EndsWith (refusals.OwnUsage misuse) status = status ≡ statuses.BadUsage
EndsWith (refusals.Script fault) status = status ≡ statuses.Refused
EndsWith (refusals.Unopened path error) status = status ≡ statuses.Failed
EndsWith (refusals.Folder path) status = status ≡ statuses.Failed
EndsWith refusals.ChartTooLarge status = status ≡ statuses.Refused
EndsWith refusals.PageTooLarge status = status ≡ statuses.Refused
EndsWith refusals.Io status = status ≡ statuses.Failed
EndsWith refusals.OutOfMemory status = status ≡ statuses.OutOfMemory
