-- Why the arguments of the command line choose nothing. (This project's.)
use Rattle.std.specs.Prelude.{◌≡◌, ℕ, List, ⊤}
use Rattle.clap.specs.Words.{fault_of}
use Rattle.rb_args.specs.CommandLine.{command_line}
use Rattle.rb_args.specs.Chosen.{RefusedFor}
use Rattle.rb_args.specs.declared.choice.ChoiceFault.TheVariants as faults
use Rattle.rb_program.specs.declared.program_error.ProgramError.{ProgramError}
use Rattle.rb_program.specs.declared.program_error.ProgramError.TheVariants as refusals
use Rattle.rb_program.specs.declared.usage_error.UsageError.TheVariants as misuses

-- clap's error is that of these words, and no other error has a word
abbrev pub IsRefusedAs : List (List ℕ) → ProgramError → Type 0
IsRefusedAs words (refusals.Clap error) = RefusedFor (fault_of command_line words) (faults.Refused error)
IsRefusedAs words refusals.OutOfMemory = ⊤
IsRefusedAs words (refusals.Usage misuse) = misuse ≡ misuses.NoText
IsRefusedAs words refusal = ⊥
