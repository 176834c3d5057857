-- The text and the status of a run. (This project's.)
use Rattle.std.specs.Prelude.{◌≡◌, ℕ, ◌+◌, ◌⊎◌, nat_lt, if◌then◌else◌, List, length, take, Option, Some, Result, Ok, Err}
use Rattle.std.specs.Io.KnownBytes.{Appends, Consumes, Keeps}
use Rattle.rb_script.specs.declared.limits.TheConstants.{MAX_SCRIPT}
use Rattle.rb_script.specs.Script.{PlainScript}
use Rattle.rb_script.specs.Reads.{Reads}
use Rattle.rb_script.specs.Reading.{read_of, Refuses}
use Rattle.rb_script.specs.Writes.{AppendsFront}
use Rattle.rb_replay.specs.Report.{mismatches, report, rewritten}
use Rattle.rb_bench.specs.declared.running.Mode.{Mode}
use Rattle.rb_bench.specs.declared.running.Mode.TheVariants as modes
use Rattle.rb_report.specs.declared.check.status.Status.{Status}
use Rattle.rb_report.specs.declared.check.status.Status.TheVariants as statuses
use Rattle.rb_bench.specs.declared.fault.BenchFault.{BenchFault}
use Rattle.rb_bench.specs.declared.fault.BenchFault.TheVariants as faults
use Rattle.rb_text.specs.declared.reading.ReadFault.{ReadFault}
use Rattle.rb_bench.specs.Faults.{of_reading}
use Rattle.rb_text.specs.Reading.{StopsWithin}

-- the output for a script
abbrev pub text_for : Mode → PlainScript → List ℕ
text_for modes.Run s = report s
text_for modes.Rewrite s = rewritten s

-- the status of mismatches
abbrev pub status_of : List ℕ → Status
status_of places = if nat_lt 0 (length places) then statuses.Mismatched else statuses.Matched

-- a rewritten script has no mismatches left
abbrev pub status_for : Mode → PlainScript → Status
status_for modes.Run s = status_of (mismatches s)
status_for modes.Rewrite s = statuses.Matched

-- The most bytes that are read: one more than a script may have, so that a longer one is recognized.
abbrev pub most_read : ℕ
most_read = MAX_SCRIPT + 1

abbrev pub read_part : List ℕ → List ℕ
read_part all = take most_read all

-- the bytes are not a script
abbrev pub IsNoScript : List ℕ → Type 0
IsNoScript bytes = (s : PlainScript) → Reads bytes s → ⊥

-- the text was written and this is the status, or writing failed and a beginning of it did
abbrev pub IsWritten : Mode → PlainScript → Result Status BenchFault → Option (List ℕ) → Option (List ℕ) → Type 0
IsWritten mode s (Ok status) old new = (status ≡ status_for mode s) × Appends old new (text_for mode s)
IsWritten mode s (Err fault) old new = (fault ≡ faults.Io) × AppendsFront old new (text_for mode s)

-- The result for bytes: the text of their script and the status, or a fault. Only for a script can the result be that writing failed;
-- a beginning of its text was written then.
abbrev pub Answers : Mode → List ℕ → Result Status BenchFault → Option (List ℕ) → Option (List ℕ) → Type 0
Answers mode bytes (Ok status) old new = (s : PlainScript) × Reads bytes s × IsWritten mode s (Ok status) old new
Answers mode bytes (Err faults.Spacing) old new = ⊥
Answers mode bytes (Err (faults.Script fault)) old new = IsNoScript bytes × Refuses fault (read_of bytes) × Keeps old new
Answers mode bytes (Err faults.Io) old new = (s : PlainScript) × Reads bytes s × IsWritten mode s (Err faults.Io) old new
Answers mode bytes (Err faults.OutOfMemory) old new = Keeps old new

-- Reading stopped: the bytes so far are lost, the fault is that of reading, and nothing was written. (A reader that failed looks like one
-- that ended early. If all bytes that were asked for came, it didn't fail.)
pub record IsUnread (before after : Option (List ℕ)) (result : Result Status BenchFault) (old new : Option (List ℕ)) : Type 0 where
  pub fault : ReadFault
  pub lost : List ℕ
  pub stops : StopsWithin fault most_read lost
  pub consumed : Consumes before after lost
  pub result_is : result ≡ Err (of_reading fault)
  pub kept : Keeps old new

-- The result for a reader that has these bytes, and then has those left: that for the bytes that were asked for, or that
-- reading stopped.
abbrev pub RunsOver : Mode → List ℕ → Option (List ℕ) → Result Status BenchFault → Option (List ℕ) → Option (List ℕ) → Type 0
RunsOver mode all left result old new = Answers mode (read_part all) result old new ⊎ IsUnread (Some all) left result old new
