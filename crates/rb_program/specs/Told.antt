-- What goes out if the program ends early. (This project's.)
use Rattle.std.specs.Prelude.{◌≡◌, ◌≢◌, ℕ, ◌⊎◌, ◌||◌, not, Bool, true, false, List, [], Option, IfSome, codes}
use Rattle.std.specs.Fmt.{◌++?◌}
use Rattle.std.specs.Io.KnownBytes.{Appends}
use Rattle.clap.specs.Values.{kind_of}
use Rattle.clap.specs.declared.error.kind.ErrorKind.{ErrorKind}
use Rattle.clap.specs.declared.error.kind.ErrorKind.TheVariants as kinds
use Rattle.rb_report.specs.declared.check.status.Status.{Status}
use Rattle.rb_program.specs.declared.program_error.ProgramError.{ProgramError}
use Rattle.rb_program.specs.declared.program_error.ProgramError.TheVariants as refusals
use Rattle.rb_program.specs.Choices.{IsSetting}
use Rattle.rb_program.specs.Refusals.{status_by_kind}
use Rattle.rb_program.specs.Sentences.{IsShown, IsTextShown, first_line, refused_word, second_line}

-- this is shown of a text, which is the output where that is known
abbrev pub IsOutputShown : Option (List ℕ) → List ℕ → Type 0
IsOutputShown output shown = (text : List ℕ) × IsTextShown text shown × IfSome output (λ bytes. text ≡ bytes)

-- the text went out as it is shown on a terminal, or as it is if memory was refused
abbrev pub TellsText : List ℕ → Option (List ℕ) → Option (List ℕ) → Type 0
TellsText text old new = (shown : List ℕ) × (IsTextShown text shown ⊎ (shown ≡ text)) × Appends old new shown

-- something is wrong with the arguments: neither help nor the version was asked for
abbrev pub IsMistake : ErrorKind → Type 0
IsMistake kind = (kind ≢ kinds.DisplayHelp) × (kind ≢ kinds.DisplayVersion)

-- a second line explains: standard error is read by a person, or the environment asks for it
abbrev pub IsExplained : (List ℕ → Option (List ℕ) → Type 0) → Bool → Bool → Type 0
IsExplained tells is_read explained = (is_asked : Bool) × IsSetting tells (codes "RAFTBENCH_EXPLAIN") is_asked × (explained ≡ is_read || is_asked)

-- the line of a refusal, in which its word is shown so, and the second if it is explained
abbrev pub told_lines : ProgramError → List ℕ → Bool → Option (List ℕ)
told_lines refusal word false = first_line refusal word
told_lines refusal word true = first_line refusal word ++? second_line refusal word

-- they went out; the word is shown for a terminal, or left out if memory was refused
abbrev pub TellsWhy : ProgramError → Bool → Option (List ℕ) → Option (List ℕ) → Type 0
TellsWhy refusal explained old new = (word : List ℕ) × (IsShown (refused_word refusal) word ⊎ (word ≡ [])) × IfSome (told_lines refusal word explained) (λ text. Appends old new text)

-- help ends by whether standard output lost something of it
abbrev pub EndsByOutput : ProgramError → Bool → Status → Type 0
EndsByOutput (refusals.Clap error) has_lost status = status ≡ status_by_kind (kind_of error) (not has_lost)
EndsByOutput refusal has_lost status = Unit {0}
