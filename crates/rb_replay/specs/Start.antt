-- What a refused start means. (This project's.)
use Rattle.std.specs.Prelude.{◌≡◌, ℕ, ◌≤◌, ◌+◌, Bool, ◌&&◌, nat_le, List, length, Result}
use Rattle.rb_script.specs.declared.fault.ScriptFault.{ScriptFault}
use Rattle.rb_script.specs.declared.fault.ScriptFault.TheVariants as reads
use Rattle.rb_script.specs.Script.{PlainScript}
use Rattle.rb_script.specs.Reads.{Reads}
use Rattle.rb_script.specs.Reading.{Refuses}
use Rattle.rb_replay.specs.declared.checkpoint_interval.TheConstants.{MAX_CHECKPOINT_INTERVAL}
use Rattle.rb_replay.specs.declared.fault.StartFault.{StartFault}
use Rattle.rb_replay.specs.declared.fault.StartFault.TheVariants.{Script, BadSpacing, OutOfMemory}

-- how far apart clusters may be kept
abbrev pub is_checkpoint_interval : ℕ → Bool
is_checkpoint_interval every = nat_le 1 every && nat_le every MAX_CHECKPOINT_INTERVAL

-- the fault of a start for one of reading: want of memory is the start's own
abbrev pub of_reading : ScriptFault → StartFault
of_reading reads.OutOfMemory = OutOfMemory
of_reading fault = Script fault

-- why no script was read: its fault is that of reading, and never want of memory
abbrev pub TellsStartFault : StartFault → Result PlainScript ScriptFault → Type 0
TellsStartFault (Script fault) read = Refuses fault read
TellsStartFault BadSpacing read = Unit {0}
TellsStartFault OutOfMemory read = Unit {0}

-- how far the meter rises before that: not at all, or for want of memory by at most the directives of the
-- script
abbrev pub RisesFor : StartFault → List ℕ → ℕ → ℕ → Type 0
RisesFor (Script fault) bytes before count = count ≡ before
RisesFor BadSpacing bytes before count = count ≡ before
RisesFor OutOfMemory bytes before count =
    ((s : PlainScript) → Reads bytes s → count ≤ before + length s.blocks) × (((s : PlainScript) → Reads bytes s → ⊥) → count ≡ before)
