-- A session's conversation: commands, each with its answer, up to the end of the input. (This project's.)
use Rattle.std.specs.Prelude.{◌≡◌, ℕ, ◌+◌, ◌<◌, ◌⊎◌, Bool, false, true, nat_lt, List, [], ◌∷◌, ◌++◌, length, take, map, codes}
use Rattle.std.specs.List.{list_any, flat_map}
use Rattle.rb_script.specs.declared.limits.TheConstants.{MAX_LINE}
use Rattle.rb_script.specs.Lines.{Line}
use Rattle.rb_bench.specs.declared.command.Command.{Command}
use Rattle.rb_bench.specs.declared.command.Command.TheVariants.{Given}
use Rattle.rb_bench.specs.Commands.{command_of}
use Rattle.rb_replay.specs.Report.{mismatches}
use Rattle.rb_replay.specs.Holding.{Holding}
use Rattle.rb_report.specs.declared.check.status.Status.{Status}
use Rattle.rb_report.specs.declared.check.status.Status.TheVariants.{Failed}
use Rattle.rb_bench.specs.Runs.{status_of}
use Rattle.rb_bench.specs.Responses.{AnswersCommand, refused}

-- A line that was sent, the lines given to it, and what came of it: whether memory refused it, the answer, and the
-- session after it.
pub record Exchange : Type 0 where
  pub line : Line
  pub given : List Line
  pub no_memory : Bool
  pub answer : List ℕ
  pub after : Holding

-- more bytes than a line may have
abbrev pub is_long : Line → Bool
is_long line = nat_lt MAX_LINE (length line)

-- how many lines are given to a command
abbrev pub given_count : Command → ℕ
given_count (Given purpose place count) = count
given_count _ = 0

-- how many lines a line asks for, itself among them
abbrev pub wanted : Line → ℕ
wanted line = 1 + given_count (command_of line)

-- the lines of an exchange
abbrev pub taken : Exchange → List Line
taken x = x.line ∷ x.given

abbrev pub answer_of : Exchange → List ℕ
answer_of x = x.answer

-- which of the commands memory refused
abbrev pub refusals : List Exchange → List Bool
refusals xs = map (λ x. x.no_memory) xs

-- A session is sent the lines, and answers.
pub record Responds (h : Holding) (x : Exchange) : Type 0 where
  pub whole : length (taken x) ≡ wanted x.line
  pub short : list_any is_long (taken x) ≡ false
  pub answers : AnswersCommand h (command_of x.line) x.given x.no_memory x.answer x.after

-- one exchange after another
abbrev pub Converses : Holding → List Exchange → Holding → Type 0
Converses h [] last = last ≡ h
Converses h (x ∷ xs) last = Responds h x × Converses x.after xs last

-- the lines that the first asks for, with itself, as far as there are lines
abbrev pub asked : List Line → List Line
asked [] = []
asked (line ∷ ls) = take (wanted line) (line ∷ ls)

-- one of them is too long
abbrev pub HasLong : List Line → Type 0
HasLong ls = list_any is_long (asked ls) ≡ true

-- there are fewer lines than are asked for, and none of them is too long
abbrev pub IsCut : List Line → Type 0
IsCut [] = ⊥
IsCut (line ∷ ls) = (list_any is_long (line ∷ ls) ≡ false) × (length (line ∷ ls) < wanted line)

-- Too long a line, or an end before all lines were given, ends the session.
abbrev pub BreaksOff : List Line → List ℕ → Type 0
BreaksOff ls text = (HasLong ls × (text ≡ refused (codes "LineTooLong"))) ⊎ (IsCut ls × (text ≡ refused (codes "CutOff")))

-- How a session ends with these lines left: what is still written, and the status.
abbrev pub Ends : Holding → List Line → List ℕ → Status → Type 0
Ends h [] text status = (text ≡ []) × (status ≡ status_of (mismatches h.script))
Ends h (line ∷ ls) text status = BreaksOff (line ∷ ls) text × (status ≡ Failed)

-- A conversation begins with these exchanges: what they answer, the lines that are left, and the session after them.
pub record Begins (first : Holding) (ls rest : List Line) (text : List ℕ) (last : Holding) : Type 0 where
  pub exchanges : List Exchange
  pub lines_are : ls ≡ flat_map taken exchanges ++ rest
  pub converses : Converses first exchanges last
  pub text_is : text ≡ flat_map answer_of exchanges

-- The whole conversation over lines: what is written, and the status.
pub record Talks (first : Holding) (ls : List Line) (text : List ℕ) (status : Status) : Type 0 where
  pub rest : List Line
  pub last : Holding
  pub answers : List ℕ
  pub ending : List ℕ
  pub begins : Begins first ls rest answers last
  pub ends : Ends last rest ending status
  pub text_is : text ≡ answers ++ ending
