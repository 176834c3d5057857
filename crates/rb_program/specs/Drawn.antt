-- What is written of the picture of a script, and the status. How far down things are in a picture is not stated. (This project's.)
use Rattle.std.specs.Prelude.{◌≡◌, ℕ, ◌⊎◌, true, false, List, Option, Some, Result, Ok, Err}
use Rattle.std.specs.Io.KnownBytes.{Appends, Keeps}
use Rattle.rb_script.specs.Lines.{lines}
use Rattle.rb_script.specs.Script.{PlainScript}
use Rattle.rb_script.specs.Reads.{Reads}
use Rattle.rb_script.specs.HeadLines.{AreHeadLines}
use Rattle.rb_script.specs.Reading.{read_of, Refuses}
use Rattle.rb_script.specs.Writes.{AppendsFront}
use Rattle.rb_replay.specs.Report.{mismatches}
use Rattle.rb_report.specs.declared.check.status.Status.{Status}
use Rattle.rb_report.specs.declared.check.status.Status.TheVariants as statuses
use Rattle.rb_bench.specs.declared.fault.BenchFault.{BenchFault}
use Rattle.rb_bench.specs.declared.fault.BenchFault.TheVariants as faults
use Rattle.rb_bench.specs.Runs.{IsNoScript, IsUnread, read_part, status_of}
use Rattle.rb_view.specs.declared.chart.part.ChartPart.{ChartPart}
use Rattle.rb_view.specs.Charts.{PlainChart, chart_text}
use Rattle.rb_view.specs.Drawn.{drawn_arrows, fits, without_places}

-- a picture has room for the part of a script, which the bytes are, and its arrows are those of that part
pub record IsPictureOf (bytes : List ℕ) (part : ChartPart) (s : PlainScript) (chart : PlainChart) : Type 0 where
  pub heads : List ℕ
  pub heads_are : AreHeadLines 1 (lines bytes) s.blocks heads
  pub has_room : fits part heads s ≡ true
  pub arrows_are : without_places chart.arrows ≡ drawn_arrows part heads s

-- a picture has too little room for the part of a script, which the bytes are
pub record HasNoRoomFor (bytes : List ℕ) (part : ChartPart) (s : PlainScript) : Type 0 where
  pub heads : List ℕ
  pub heads_are : AreHeadLines 1 (lines bytes) s.blocks heads
  pub has_no_room : fits part heads s ≡ false

-- the bytes are a script, and a picture has too little room for its part
pub record IsTooLarge (bytes : List ℕ) (part : ChartPart) : Type 0 where
  pub script : PlainScript
  pub reads : Reads bytes script
  pub has_no_room : HasNoRoomFor bytes part script

-- the bytes are a script, this is a picture of its part, and this is the status of its mismatches
pub record IsPicture (bytes : List ℕ) (part : ChartPart) (chart : PlainChart) (status : Status) : Type 0 where
  pub script : PlainScript
  pub reads : Reads bytes script
  pub picture : IsPictureOf bytes part script chart
  pub status_is : status ≡ status_of (mismatches script)

-- a picture was written; or it has too little room, which is a status of its own, and nothing was
abbrev pub IsDrawn : List ℕ → ChartPart → List ℕ → Status → Option (List ℕ) → Option (List ℕ) → Type 0
IsDrawn style part bytes status old new =
    ((chart : PlainChart) × IsPicture bytes part chart status × Appends old new (chart_text style chart)) ⊎ ((status ≡ statuses.Refused) × IsTooLarge bytes part × Keeps old new)

-- The answer to bytes: a picture was written and the status of their script, or a fault. That writing failed is answered only of a script, and what
-- was written then is a beginning of a picture.
abbrev pub Draws : List ℕ → ChartPart → List ℕ → Result Status BenchFault → Option (List ℕ) → Option (List ℕ) → Type 0
Draws style part bytes (Ok status) old new = IsDrawn style part bytes status old new
Draws style part bytes (Err faults.Spacing) old new = ⊥
Draws style part bytes (Err (faults.Script fault)) old new = IsNoScript bytes × Refuses fault (read_of bytes) × Keeps old new
Draws style part bytes (Err faults.Io) old new = (chart : PlainChart) × (status : Status) × IsPicture bytes part chart status × AppendsFront old new (chart_text style chart)
Draws style part bytes (Err faults.OutOfMemory) old new = Keeps old new

-- what comes of a reader that has these bytes, and then has those left: the answer to what is wanted of them, or that reading stopped
abbrev pub DrawsOver : List ℕ → ChartPart → List ℕ → Option (List ℕ) → Result Status BenchFault → Option (List ℕ) → Option (List ℕ) → Type 0
DrawsOver style part all left result old new = Draws style part (read_part all) result old new ⊎ IsUnread (Some all) left result old new
