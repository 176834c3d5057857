-- One exchange of a conversation. (This project's.)
use Rattle.std.specs.Prelude.{◌≡◌, ℕ, ◌⊎◌, List, [], ◌++◌, Option, Some, None, Result, Ok, Err, IfSome}
use Rattle.std.specs.Io.KnownBytes.{Appends}
use Rattle.rb_script.specs.Lines.{Line, lines}
use Rattle.rb_script.specs.Writes.{AppendsFront}
use Rattle.rb_replay.specs.Holding.{Holding}
use Rattle.rb_report.specs.declared.check.status.Status.{Status}
use Rattle.rb_bench.specs.declared.fault.BenchFault.{BenchFault}
use Rattle.rb_bench.specs.Talk.{Exchange, taken, Responds, Ends}
use Rattle.rb_bench.specs.Known.{IfKnown}

-- an exchange, after which this is the session
pub record IsExchange (h : Holding) (ls rest : List Line) (text : List ℕ) (after : Holding) : Type 0 where
  pub exchange : Exchange
  pub lines_are : ls ≡ taken exchange ++ rest
  pub responds : Responds h exchange
  pub answer_is : exchange.answer ≡ text
  pub after_is : exchange.after ≡ after

-- an exchange, or the end with a status
abbrev pub IsTurn : Holding → List Line → List Line → List ℕ → Holding → Option Status → Type 0
IsTurn h ls rest text after None = IsExchange h ls rest text after
IsTurn h ls rest text after (Some status) = Ends h ls text status

-- an exchange was written whole
pub record Turned (h : Holding) (ls rest : List Line) (after : Holding) (status : Option Status) (old new : Option (List ℕ)) : Type 0 where
  pub text : List ℕ
  pub serve_one : IsTurn h ls rest text after status
  pub went_out : Appends old new text

-- the text that was to be written when a call failed: nothing yet, or that of an exchange
abbrev pub IsDue : Holding → List Line → List ℕ → Type 0
IsDue h ls text = (text ≡ []) ⊎ ((rest : List Line) × (after : Holding) × (status : Option Status) × IsTurn h ls rest text after status)

-- a beginning of it was written
pub record TurnedInPart (h : Holding) (ls : List Line) (old new : Option (List ℕ)) : Type 0 where
  pub text : List ℕ
  pub is_due : IsDue h ls text
  pub went_out : AppendsFront old new text

-- the result of an exchange, if the bytes are known
abbrev pub TurnsOut : Option (List ℕ) → Option (List ℕ) → Result (Option Status) BenchFault → Holding → Holding → Option (List ℕ) → Option (List ℕ) → Type 0
TurnsOut before left (Ok status) h after old new = IfKnown before left (λ ls rest. Turned h ls rest after status old new)
TurnsOut before left (Err fault) h after old new = IfSome before (λ bytes. TurnedInPart h (lines bytes) old new)
