-- What is done with one script. (This project's.)
use Rattle.std.specs.Prelude.{◌≡◌, ℕ, ◌&&◌, Bool, false, true, if◌then◌else◌, List, Option, Some, None, Result, Ok, Err, codes, option_map, string_bytes}
use Rattle.std.specs.Str.{bytes_eq}
use Rattle.rb_args.specs.declared.choice.ScriptCommand.{ScriptCommand}
use Rattle.rb_args.specs.declared.choice.ScriptCommand.TheVariants as commands
use Rattle.rb_bench.specs.declared.limits.TheConstants.{DEFAULT_CHECKPOINT_INTERVAL}
use Rattle.rb_replay.specs.Start.{is_checkpoint_interval}
use Rattle.rb_text.specs.Numbers.{number_of}
use Rattle.rb_report.specs.declared.check.status.Status.{Status}
use Rattle.rb_program.specs.declared.program_error.ProgramError.{ProgramError}
use Rattle.rb_program.specs.declared.program_error.ProgramError.TheVariants as refusals
use Rattle.rb_program.specs.declared.usage_error.UsageError.{UsageError}
use Rattle.rb_program.specs.declared.usage_error.UsageError.TheVariants as misuses
use Rattle.rb_program.specs.declared.work.Work.{Work}
use Rattle.rb_program.specs.declared.work.Work.TheVariants as works

-- the number after `--every`
abbrev pub spacing_of : Option (List ℕ) → Option ℕ
spacing_of None = Some DEFAULT_CHECKPOINT_INTERVAL
spacing_of (Some word) = number_of word

-- what the subcommand does, with the text after `--every`, which pages don't look at; nothing, where that is no number
abbrev pub work_of : ScriptCommand → Option (List ℕ) → Option Work
work_of commands.Run every = option_map (λ n. works.Report n) (spacing_of every)
work_of commands.Rewrite every = option_map (λ n. works.Rewriting n) (spacing_of every)
work_of commands.Session every = option_map (λ n. works.Session n) (spacing_of every)
work_of commands.Look every = Some works.Look
work_of commands.Page every = Some works.Page
work_of commands.Chart every = Some works.Chart
work_of commands.Trace every = Some works.Trace

-- a rewrite is noted if notes are wanted; a number that no session takes is refused as in any rewrite
abbrev pub noted : Bool → Work → Work
noted notes (works.Rewriting n) = if notes && is_checkpoint_interval n then works.Noting else works.Rewriting n
noted notes works.Noting = works.Noting
noted notes (works.Report n) = works.Report n
noted notes (works.Session n) = works.Session n
noted notes works.Look = works.Look
noted notes works.Page = works.Page
noted notes works.Chart = works.Chart
noted notes works.Trace = works.Trace

abbrev pub is_session : ScriptCommand → Bool
is_session commands.Session = true
is_session _ = false

abbrev pub task_for : Bool → Option Work → Result Work UsageError
task_for notes None = Err misuses.Spacing
task_for notes (Some work) = Ok (noted notes work)

-- what is done with the script in the file: a session's commands come from standard input, so its script doesn't
unfoldable pub task_asked : ScriptCommand → List ℕ → Option (List ℕ) → Bool → Result Work UsageError
task_asked command file every notes =
    if bytes_eq file (codes "-") && is_session command then Err misuses.Input else task_for notes (work_of command every)

-- a session takes the number, where there is one
abbrev pub has_interval : Work → Bool
has_interval (works.Report n) = is_checkpoint_interval n
has_interval (works.Rewriting n) = is_checkpoint_interval n
has_interval works.Noting = true
has_interval (works.Session n) = is_checkpoint_interval n
has_interval works.Look = true
has_interval works.Page = true
has_interval works.Chart = true
has_interval works.Trace = true

-- what is wrong with the text after `--every`: the text is named, if there is memory for it
abbrev pub IsOfEvery : Option (List ℕ) → UsageError → Type 0
IsOfEvery every (misuses.Every text) = every ≡ Some (string_bytes text)
IsOfEvery every misuse = misuse ≡ misuses.Spacing

-- if the checkpoint interval is wrong, the usage error quotes the text after `--every`
abbrev pub TellsEvery : Option (List ℕ) → UsageError → UsageError → Type 0
TellsEvery every misuses.Spacing told = IsOfEvery every told
TellsEvery every misuse told = told ≡ misuse

-- the same of a refusal
abbrev pub NamesEvery : Option (List ℕ) → ProgramError → ProgramError → Type 0
NamesEvery every (refusals.Usage misuse) (refusals.Usage told) = TellsEvery every misuse told
NamesEvery every refusal told = told ≡ refusal

-- the result is this usage error, with the text after `--every` if that is what is wrong
abbrev pub IsRefused : Option (List ℕ) → UsageError → Result Status ProgramError → Type 0
IsRefused every misuse (Ok status) = ⊥
IsRefused every misuse (Err refusal) = NamesEvery every (refusals.Usage misuse) refusal
