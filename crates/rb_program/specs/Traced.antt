-- What is written of the trace of a script, and the status. (This project's.)
use Rattle.std.specs.Prelude.{◌≡◌, ℕ, ◌⊎◌, List, Option, Some, Result, Ok, Err}
use Rattle.std.specs.Io.KnownBytes.{Appends, Keeps}
use Rattle.rb_script.specs.Lines.{Line, lines, text_of}
use Rattle.rb_script.specs.Script.{PlainScript}
use Rattle.rb_script.specs.Reads.{Reads}
use Rattle.rb_script.specs.Reading.{read_of, Refuses}
use Rattle.rb_script.specs.HeadLines.{AreHeadLines}
use Rattle.rb_script.specs.Writes.{AppendsFront}
use Rattle.rb_replay.specs.Report.{mismatches}
use Rattle.rb_report.specs.declared.check.status.Status.{Status}
use Rattle.rb_bench.specs.declared.fault.BenchFault.{BenchFault}
use Rattle.rb_bench.specs.declared.fault.BenchFault.TheVariants as faults
use Rattle.rb_bench.specs.Runs.{IsNoScript, IsUnread, read_part, status_of}
use Rattle.rb_view.specs.Traces.{trace_lines}

-- these are the lines of the trace of a script of this name, which the bytes are
pub record AreLinesOf (name bytes : List ℕ) (s : PlainScript) (traced : List Line) : Type 0 where
  pub heads : List ℕ
  pub heads_are : AreHeadLines 1 (lines bytes) s.blocks heads
  pub lines_are : traced ≡ trace_lines name heads s

-- the bytes are a script, these are the lines of its trace, and this is the status of its mismatches
pub record IsTraceOf (name bytes : List ℕ) (traced : List Line) (status : Status) : Type 0 where
  pub script : PlainScript
  pub reads : Reads bytes script
  pub are : AreLinesOf name bytes script traced
  pub status_is : status ≡ status_of (mismatches script)

-- The answer to bytes: the trace of their script was written and this is its status, or a fault. That writing failed is answered only of a script,
-- and what was written then is a beginning of its trace.
abbrev pub Traces : List ℕ → List ℕ → Result Status BenchFault → Option (List ℕ) → Option (List ℕ) → Type 0
Traces name bytes (Ok status) old new = (traced : List Line) × IsTraceOf name bytes traced status × Appends old new (text_of traced)
Traces name bytes (Err faults.Spacing) old new = ⊥
Traces name bytes (Err (faults.Script fault)) old new = IsNoScript bytes × Refuses fault (read_of bytes) × Keeps old new
Traces name bytes (Err faults.Io) old new = (traced : List Line) × (status : Status) × IsTraceOf name bytes traced status × AppendsFront old new (text_of traced)
Traces name bytes (Err faults.OutOfMemory) old new = Keeps old new

-- what comes of a reader that has these bytes, and then has those left: the answer to what is wanted of them, or that reading stopped
abbrev pub TracesOver : List ℕ → List ℕ → Option (List ℕ) → Result Status BenchFault → Option (List ℕ) → Option (List ℕ) → Type 0
TracesOver name all left result old new = Traces name (read_part all) result old new ⊎ IsUnread (Some all) left result old new
