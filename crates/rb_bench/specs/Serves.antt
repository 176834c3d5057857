-- The result of serving a script: its session, and the conversation that was written. (This project's.)
use Rattle.std.specs.Prelude.{◌≡◌, ◌⊎◌, ℕ, List, length, Option, Result, Ok, Err, IfSome, ⊤}
use Rattle.std.specs.Io.KnownBytes.{Appends}
use Rattle.rb_script.specs.Lines.{Line, lines}
use Rattle.rb_script.specs.Reads.{Reads}
use Rattle.rb_script.specs.Writes.{AppendsFront}
use Rattle.rb_replay.specs.Points.{start_points}
use Rattle.rb_replay.specs.Holding.{Holding, IsFresh}
use Rattle.rb_report.specs.declared.check.status.Status.{Status}
use Rattle.rb_bench.specs.declared.fault.BenchFault.{BenchFault}
use Rattle.rb_bench.specs.declared.fault.BenchFault.TheVariants.{Io}
use Rattle.rb_bench.specs.Talk.{Begins, Talks}

-- a whole conversation was written
pub record WentOut (first : Holding) (ls : List Line) (status : Status) (old new : Option (List ℕ)) : Type 0 where
  pub text : List ℕ
  pub talks : Talks first ls text status
  pub went_out : Appends old new text

-- a beginning of one: of the answers to its first commands, or of all that is written
pub record WentOutInPart (first : Holding) (ls : List Line) (old new : Option (List ℕ)) : Type 0 where
  pub text : List ℕ
  pub begins : ((rest : List Line) × (last : Holding) × Begins first ls rest text last) ⊎ ((status : Status) × Talks first ls text status)
  pub went_out : AppendsFront old new text

-- the result of a conversation, if the bytes of the input are known: a fault is a failed call
abbrev pub TalksOut : Option (List ℕ) → Result Status BenchFault → Holding → Option (List ℕ) → Option (List ℕ) → Type 0
TalksOut all (Ok status) first old new = IfSome all (λ bytes. WentOut first (lines bytes) status old new)
TalksOut all (Err fault) first old new = IfSome all (λ bytes. WentOutInPart first (lines bytes) old new)

-- the session of a script that was just started
pub record IsStarted (script : List ℕ) (every : ℕ) (h : Holding) : Type 0 where
  pub reads : Reads script h.script
  pub fresh : IsFresh h
  pub checkpoint_interval : h.checkpoint_interval ≡ every
  pub points : h.points ≡ start_points every (length h.script.blocks)

-- a conversation that began with it
pub record Serves (all : Option (List ℕ)) (result : Result Status BenchFault) (script : List ℕ) (every : ℕ) (old new : Option (List ℕ)) : Type 0 where
  pub first : Holding
  pub started : IsStarted script every first
  pub talked : TalksOut all result first old new

-- the result of serving a script: except after a failed call, a fault means that no session was started
abbrev pub ServesOut : Option (List ℕ) → Result Status BenchFault → List ℕ → ℕ → Option (List ℕ) → Option (List ℕ) → Type 0
ServesOut all (Ok status) script every old new = Serves all (Ok status) script every old new
ServesOut all (Err Io) script every old new = Serves all (Err Io) script every old new
ServesOut all (Err fault) script every old new = ⊤
