-- What is written of the steps of a script, and the status. (This project's.)
use Rattle.std.specs.Prelude.{◌≡◌, ℕ, ◌⊎◌, true, false, List, Option, Some, Result, Ok, Err}
use Rattle.std.specs.Io.KnownBytes.{Appends, Keeps}
use Rattle.rb_script.specs.Lines.{Line, lines}
use Rattle.rb_script.specs.Script.{PlainScript}
use Rattle.rb_script.specs.Reads.{Reads}
use Rattle.rb_script.specs.Reading.{read_of, Refuses}
use Rattle.rb_script.specs.HeadLines.{AreHeadLines}
use Rattle.rb_script.specs.Writes.{AppendsFront}
use Rattle.rb_replay.specs.Report.{mismatches}
use Rattle.rb_report.specs.declared.check.status.Status.{Status}
use Rattle.rb_report.specs.declared.check.status.Status.TheVariants as statuses
use Rattle.rb_bench.specs.declared.fault.BenchFault.{BenchFault}
use Rattle.rb_bench.specs.declared.fault.BenchFault.TheVariants as faults
use Rattle.rb_bench.specs.Runs.{IsNoScript, IsUnread, read_part, status_of}
use Rattle.rb_view.specs.PageRoom.{has_room}
use Rattle.rb_view.specs.Steps.{steps_texts}

-- these are the rows after the first of a script, which the bytes are, and a page has room for them
pub record AreRowsOf (bytes : List ℕ) (s : PlainScript) (texts : List Line) : Type 0 where
  pub heads : List ℕ
  pub heads_are : AreHeadLines 1 (lines bytes) s.blocks heads
  pub texts_are : texts ≡ steps_texts bytes heads s
  pub fits : has_room (steps_texts bytes heads s) ≡ true

-- a page has no room for the rows of a script, which the bytes are
pub record RowsHaveNoRoom (bytes : List ℕ) (s : PlainScript) : Type 0 where
  pub heads : List ℕ
  pub heads_are : AreHeadLines 1 (lines bytes) s.blocks heads
  pub too_long : has_room (steps_texts bytes heads s) ≡ false

-- the bytes are a script, and a page has no room for its rows
pub record IsPastPage (bytes : List ℕ) : Type 0 where
  pub script : PlainScript
  pub reads : Reads bytes script
  pub rows : RowsHaveNoRoom bytes script

-- the bytes are a script, these are its rows, and this is the status of its mismatches
pub record AreStepsOf (bytes : List ℕ) (texts : List Line) (status : Status) : Type 0 where
  pub script : PlainScript
  pub reads : Reads bytes script
  pub rows : AreRowsOf bytes script texts
  pub status_is : status ≡ status_of (mismatches script)

-- the text of rows was written; or a page has no room for them, which is a status of its own, and nothing was
abbrev pub IsWritten : (List Line → List ℕ) → List ℕ → Status → Option (List ℕ) → Option (List ℕ) → Type 0
IsWritten text bytes status old new =
    ((texts : List Line) × AreStepsOf bytes texts status × Appends old new (text texts)) ⊎ ((status ≡ statuses.Refused) × IsPastPage bytes × Keeps old new)

-- The answer to bytes, where this text is written of rows: the text of those of their script and the status, or a fault. That writing failed
-- is answered only of a script, and what was written then is a beginning of its text.
abbrev pub Tells : (List Line → List ℕ) → List ℕ → Result Status BenchFault → Option (List ℕ) → Option (List ℕ) → Type 0
Tells text bytes (Ok status) old new = IsWritten text bytes status old new
Tells text bytes (Err faults.Spacing) old new = ⊥
Tells text bytes (Err (faults.Script fault)) old new = IsNoScript bytes × Refuses fault (read_of bytes) × Keeps old new
Tells text bytes (Err faults.Io) old new = (texts : List Line) × (status : Status) × AreStepsOf bytes texts status × AppendsFront old new (text texts)
Tells text bytes (Err faults.OutOfMemory) old new = Keeps old new

-- what comes of a reader that has these bytes, and then has those left: the answer to what is wanted of them, or that reading stopped
abbrev pub TellsOver : (List Line → List ℕ) → List ℕ → Option (List ℕ) → Result Status BenchFault → Option (List ℕ) → Option (List ℕ) → Type 0
TellsOver text all left result old new = Tells text (read_part all) result old new ⊎ IsUnread (Some all) left result old new
