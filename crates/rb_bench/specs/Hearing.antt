-- Reading a command with its lines. (This project's.)
use Rattle.std.specs.Prelude.{◌≡◌, ℕ, ◌<◌, ◌≤◌, false, true, List, [], ◌∷◌, ◌++◌, length, take, Option, ⊤}
use Rattle.std.specs.List.{list_any}
use Rattle.rb_script.specs.declared.limits.TheConstants.{MAX_SCRIPT}
use Rattle.rb_script.specs.Lines.{Line, text_of}
use Rattle.rb_script.specs.Reading.{capped}
use Rattle.rb_bench.specs.declared.command.Command.{Command}
use Rattle.rb_bench.specs.Commands.{command_of}
use Rattle.rb_bench.specs.declared.given_lines.GivenLines.{GivenLines}
use Rattle.rb_bench.specs.declared.hear.HeardCommand.{HeardCommand}
use Rattle.rb_bench.specs.declared.hear.HeardCommand.TheVariants as heards
use Rattle.rb_bench.specs.Talk.{is_long, given_count, wanted, HasLong, IsCut}
use Rattle.rb_bench.specs.Known.{IfKnown}

-- what is kept of given lines: the length of their text, and the lines if it may be so long and there was memory
pub record IsGiven (given : GivenLines) (ls : List Line) : Type 0 where
  pub len : given.text_len ≡ capped (length (text_of ls))
  pub kept : given.has_no_memory ≡ false → given.text_len ≤ MAX_SCRIPT → given.lines ≡ ls

-- n lines were read, none of them too long, and the rest is left
pub record HasTaken (all rest : List Line) (count : ℕ) (given : GivenLines) : Type 0 where
  pub ls : List Line
  pub lines_are : all ≡ ls ++ rest
  pub count_is : length ls ≡ count
  pub short : list_any is_long ls ≡ false
  pub is_given : IsGiven given ls

-- a command was read, and all of its lines
abbrev pub IsCommand : HeardCommand → Type 0
IsCommand (heards.Command command given) = ⊤
IsCommand heards.End = ⊥
IsCommand heards.LineTooLong = ⊥
IsCommand heards.CutOff = ⊥

-- the command after its first line
abbrev pub Gathers : Command → HeardCommand → List Line → List Line → Type 0
Gathers command (heards.Command same given) ls rest = (same ≡ command) × HasTaken ls rest (given_count command) given
Gathers command heards.End ls rest = ⊥
Gathers command heards.LineTooLong ls rest = list_any is_long (take (given_count command) ls) ≡ true
Gathers command heards.CutOff ls rest = (list_any is_long ls ≡ false) × (length ls < given_count command)

-- the same of bytes that may not be known
abbrev pub GathersOf : Option (List ℕ) → Option (List ℕ) → Command → HeardCommand → Type 0
GathersOf before after command heard = IfKnown before after (Gathers command heard)

-- a command was heard, and its lines
pub record HearsCommand (command : Command) (given : GivenLines) (ls rest : List Line) : Type 0 where
  pub line : Line
  pub given_lines : List Line
  pub command_is : command ≡ command_of line
  pub lines_are : ls ≡ (line ∷ given_lines) ++ rest
  pub whole : length (line ∷ given_lines) ≡ wanted line
  pub short : list_any is_long (line ∷ given_lines) ≡ false
  pub is_given : IsGiven given given_lines

-- the command at the beginning of lines, and the rest
abbrev pub Hears : HeardCommand → List Line → List Line → Type 0
Hears (heards.Command command given) ls rest = HearsCommand command given ls rest
Hears heards.End ls rest = ls ≡ []
Hears heards.LineTooLong ls rest = HasLong ls
Hears heards.CutOff ls rest = IsCut ls

-- the same of bytes that may not be known
abbrev pub HearsOf : Option (List ℕ) → Option (List ℕ) → HeardCommand → Type 0
HearsOf before after heard = IfKnown before after (Hears heard)
