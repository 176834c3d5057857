-- Where reading stops before the end of the input: the bytes so far, and the answers. (This project's.)
use Rattle.std.specs.Prelude.{◌≡◌, ◌⊎◌, ◌<◌, ◌≤◌, ℕ, false, List, [], ◌++◌, length, Option, Some, None, ⊤}
use Rattle.std.specs.List.{list_any}
use Rattle.std.specs.Io.KnownBytes.{Appends}
use Rattle.rb_script.specs.declared.limits.TheConstants.{MAX_LINE}
use Rattle.rb_script.specs.Lines.{Line, lines, without_returns}
use Rattle.rb_replay.specs.Holding.{Holding}
use Rattle.rb_text.specs.declared.line_reader.LineReader.{LineReader}
use Rattle.rb_text.specs.Begun.{HasNoNewline}
use Rattle.rb_text.specs.Left.{left_of}
use Rattle.rb_text.specs.Taken.{AreWhole, TakesWhole}
use Rattle.rb_bench.specs.declared.hear.HeardCommand.{HeardCommand}
use Rattle.rb_bench.specs.declared.hear.HeardCommand.TheVariants as heards
use Rattle.rb_report.specs.declared.check.status.Status.{Status}
use Rattle.rb_bench.specs.Talk.{is_long, IsCut, Begins}
use Rattle.rb_bench.specs.Serves.{IsStarted}

-- fewer lines than are asked for, and none too long
abbrev pub AreTooFew : ℕ → List Line → Type 0
AreTooFew count ls = (length ls < count) × (list_any is_long ls ≡ false)

-- no command, or one whose lines aren't all there
abbrev pub IsUnfinished : List Line → Type 0
IsUnfinished ls = (ls ≡ []) ⊎ IsCut ls

-- whole lines with their ends, which satisfy this, and then the beginning of one that isn't too long so far
pub record Came (holds : List Line → Type 0) (bytes : List ℕ) : Type 0 where
  pub whole : List ℕ
  pub begun : List ℕ
  pub bytes_are : bytes ≡ whole ++ begun
  pub are_whole : AreWhole whole
  pub no_newline : HasNoNewline begun
  pub short : length (without_returns begun) ≤ MAX_LINE
  pub held : holds (lines whole)

-- all known bytes, and the rest that is left
abbrev pub IfCame : Option (List ℕ) → Option (List ℕ) → (List ℕ → Type 0) → Type 0
IfCame None left holds = ⊤
IfCame (Some all) None holds = ⊥
IfCame (Some all) (Some rest) holds = (bytes : List ℕ) × (all ≡ bytes ++ rest) × holds bytes

-- reading stopped before the end: the whole lines so far satisfy this, and perhaps one more had begun
pub record StopsBehind (holds : List Line → Type 0) (input : LineReader) (left after : Option (List ℕ)) : Type 0 where
  pub going : input.has_ended ≡ false
  pub came : IfCame (left_of input left) after (Came holds)

-- a command was taken with the ends of all its lines, unless the end was met
abbrev pub TakesHeard : HeardCommand → LineReader → LineReader → Option (List ℕ) → Option (List ℕ) → Type 0
TakesHeard (heards.Command command given) input later left after = TakesWhole input later left after
TakesHeard heards.End input later left after = ⊤
TakesHeard heards.LineTooLong input later left after = ⊤
TakesHeard heards.CutOff input later left after = ⊤

-- the same for an exchange after which the session continues
abbrev pub TakesTurn : Option Status → LineReader → LineReader → Option (List ℕ) → Option (List ℕ) → Type 0
TakesTurn None input later left after = TakesWhole input later left after
TakesTurn (Some status) input later left after = ⊤

-- exactly the answers to the commands that are whole in these lines was written
pub record AnswersWhole (first : Holding) (old new : Option (List ℕ)) (ls : List Line) : Type 0 where
  pub rest : List Line
  pub last : Holding
  pub text : List ℕ
  pub begins : Begins first ls rest text last
  pub unfinished : IsUnfinished rest
  pub went_out : Appends old new text

-- the same for all bytes so far
abbrev pub AnswersCame : Holding → Option (List ℕ) → Option (List ℕ) → Option (List ℕ) → Option (List ℕ) → Type 0
AnswersCame first left after old new = IfCame left after (Came (AnswersWhole first old new))

-- the result of serving a script if reading stops
abbrev pub ServesCame : List ℕ → ℕ → Option (List ℕ) → Option (List ℕ) → Option (List ℕ) → Option (List ℕ) → Type 0
ServesCame script every left after old new = (first : Holding) × IsStarted script every first × AnswersCame first left after old new
