-- What the program says on standard error when it ends early. (This project's; help and wrong arguments are told by clap.)
use Rattle.std.specs.Prelude.{◌≡◌, ℕ, ◌==◌, false, List, [], ◌++◌, Option, Some, None, codes, decimal, option_map, string_bytes}
use Rattle.std.specs.List.{AllZip, list_any}
use Rattle.rb_script.specs.Bytes.{line_feed}
use Rattle.rb_script.specs.Lines.{Line, text_of}
use Rattle.rb_report.specs.Refusals.{fault_line}
use Rattle.rb_view.specs.declared.chart.draw.TheConstants.{MAX_EVENTS}
use Rattle.rb_view.specs.declared.steps.room.TheConstants.{MAX_PAGE}
use Rattle.rb_bench.specs.Names.{script_name}
use Rattle.rb_report.specs.Names.{shown_name}
use Rattle.rb_program.specs.declared.program_error.ProgramError.{ProgramError}
use Rattle.rb_program.specs.declared.program_error.ProgramError.TheVariants as refusals
use Rattle.rb_program.specs.declared.usage_error.UsageError.{UsageError}
use Rattle.rb_program.specs.declared.usage_error.UsageError.TheVariants as misuses

-- a word as it is shown on a terminal
abbrev pub IsShown : List ℕ → List ℕ → Type 0
IsShown word shown = shown ≡ shown_name word

-- a line as it is shown there
abbrev pub IsLineShown : Line → List ℕ → Type 0
IsLineShown line shown = (list_any (λ b. b == line_feed) line ≡ false) × IsShown line shown

-- a text as it is shown there: its lines, and what is after the last end of a line
pub record IsTextShown (text shown : List ℕ) : Type 0 where
  pub ls : List Line
  pub last : Line
  pub ls_shown : List Line
  pub last_shown : Line
  pub parts : text ≡ text_of ls ++ last
  pub each : AllZip IsLineShown ls ls_shown
  pub rest : IsLineShown last last_shown
  pub shown_is : shown ≡ text_of ls_shown ++ last_shown

-- the word that a usage error is about
abbrev pub misused_word : UsageError → List ℕ
misused_word misuses.NoText = []
misused_word misuses.NoCommand = []
misused_word misuses.NoFile = []
misused_word misuses.Input = []
misused_word (misuses.Every text) = string_bytes text
misused_word misuses.Spacing = []
misused_word (misuses.Color text) = string_bytes text
misused_word (misuses.Format text) = string_bytes text
misused_word misuses.NoTerminal = []
misused_word misuses.Unseen = []
misused_word (misuses.From text) = string_bytes text
misused_word (misuses.Until text) = string_bytes text
misused_word (misuses.Place text) = string_bytes text
misused_word (misuses.Directive name meant) = string_bytes name

-- the word that a refusal is about: that of the usage error, or the path
abbrev pub refused_word : ProgramError → List ℕ
refused_word (refusals.Clap error) = []
refused_word (refusals.Usage misuse) = misused_word misuse
refused_word (refusals.OwnUsage misuse) = misused_word misuse
refused_word (refusals.Script fault) = []
refused_word (refusals.Unopened path error) = string_bytes path
refused_word refusals.ChartTooLarge = []
refused_word refusals.PageTooLarge = []
refused_word (refusals.Folder path) = string_bytes path
refused_word refusals.Io = []
refused_word refusals.OutOfMemory = []

-- no directive has the name; and the name that is near it
abbrev pub unknown_line : List ℕ → Option (List ℕ) → List ℕ
unknown_line name None = codes "no directive is called " ++ (name ++ codes "; raftbench directives shows those that there are\n")
unknown_line name (Some meant) = codes "no directive is called " ++ (name ++ (codes "; did you mean " ++ (meant ++ codes "?\n")))

-- the sentence of a usage error, whose word is shown so; without arguments it is clap's help
abbrev pub usage_line : UsageError → List ℕ → Option (List ℕ)
usage_line misuses.NoText word = Some (codes "the words are to be UTF-8\n")
usage_line misuses.NoCommand word = None
usage_line misuses.NoFile word = Some (codes "FILE is missing: the file of a script\n")
usage_line misuses.Input word = Some (codes "-: a session's commands come from standard input, so its script stands in a file\n")
usage_line (misuses.Every text) word = Some (codes "--every " ++ (word ++ codes ": a number from 1 to 64\n"))
usage_line misuses.Spacing word = Some (codes "--every: a number from 1 to 64\n")
usage_line (misuses.Color text) word = Some (codes "--color " ++ (word ++ codes ": auto, always or never\n"))
usage_line (misuses.Format text) word = Some (codes "--format " ++ (word ++ codes ": text, json, github or junit\n"))
usage_line misuses.NoTerminal word = Some (codes "--review: it asks on a terminal, and standard input or output is none\n")
usage_line misuses.Unseen word = Some (codes "--review: it shows what it asks about, so it goes with neither --quiet nor --format\n")
usage_line (misuses.From text) word = Some (codes "--from " ++ (word ++ codes ": the line of a directive\n"))
usage_line (misuses.Until text) word = Some (codes "--until " ++ (word ++ codes ": the line of a directive\n"))
usage_line (misuses.Place text) word = Some (word ++ codes ": FILE:LINE, where a directive stands at the line or above it\n")
usage_line (misuses.Directive name meant) word = Some (unknown_line word (option_map (λ m. m.now) meant))

-- a script is refused for the fault of this name, at this line
abbrev pub script_line : List ℕ → Option ℕ → List ℕ
script_line name None = codes "raftbench: script refused: " ++ (name ++ codes "\n")
script_line name (Some line) = codes "raftbench: script refused: " ++ (name ++ (codes " at line " ++ (decimal line ++ codes "\n")))

-- the first line, in which the word is shown so
abbrev pub first_line : ProgramError → List ℕ → Option (List ℕ)
first_line (refusals.Clap error) word = None
first_line (refusals.Usage misuse) word = Some (codes "raftbench: bad usage\n")
first_line (refusals.OwnUsage misuse) word = option_map (λ line. codes "raftbench: " ++ line) (usage_line misuse word)
first_line (refusals.Script fault) word = Some (script_line (script_name fault) (fault_line fault))
first_line (refusals.Unopened path error) word = Some (codes "raftbench: input or output failed\n")
first_line refusals.ChartTooLarge word =
    Some (codes "raftbench: a picture has room for " ++ (decimal MAX_EVENTS ++ codes " events: choose a part by --from and --until\n"))
first_line refusals.PageTooLarge word =
    Some (codes "raftbench: a page has room for " ++ (decimal MAX_PAGE ++ codes " bytes of rows: divide the script, or see a part of it by chart\n"))
first_line (refusals.Folder path) word = Some (codes "raftbench: input or output failed\n")
first_line refusals.Io word = Some (codes "raftbench: input or output failed\n")
first_line refusals.OutOfMemory word = Some (codes "raftbench: out of memory\n")

-- the second line for a person, if the first doesn't say enough; why a file wasn't opened is the system's to say
abbrev pub second_line : ProgramError → List ℕ → Option (List ℕ)
second_line (refusals.Clap error) word = Some []
second_line (refusals.Usage misuse) word = usage_line misuse word
second_line (refusals.OwnUsage misuse) word = Some []
second_line (refusals.Script fault) word = Some []
second_line (refusals.Unopened path error) word = None
second_line refusals.ChartTooLarge word = Some []
second_line refusals.PageTooLarge word = Some []
second_line (refusals.Folder path) word = Some (word ++ codes ": it is a folder, and not a script; raftbench check takes folders\n")
second_line refusals.Io word = Some []
second_line refusals.OutOfMemory word = Some []
