-- Why a script is not run to its end. (This project's.)
use Rattle.std.specs.Prelude.{Result, ⊤}
use Rattle.rb_script.specs.declared.fault.ScriptFault.{ScriptFault}
use Rattle.rb_script.specs.Script.{PlainScript}
use Rattle.rb_script.specs.Reading.{Refuses}
use Rattle.rb_text.specs.declared.reading.ReadFault.{ReadFault}
use Rattle.rb_text.specs.declared.reading.ReadFault.TheVariants as reads
use Rattle.rb_replay.specs.declared.fault.StartFault.{StartFault}
use Rattle.rb_replay.specs.declared.fault.StartFault.TheVariants as starts
use Rattle.rb_bench.specs.declared.fault.BenchFault.{BenchFault}
use Rattle.rb_bench.specs.declared.fault.BenchFault.TheVariants as faults

-- the program's faults for those of its parts
abbrev pub of_reading : ReadFault → BenchFault
of_reading reads.Io = faults.Io
of_reading reads.OutOfMemory = faults.OutOfMemory

abbrev pub of_starting : StartFault → BenchFault
of_starting (starts.Script fault) = faults.Script fault
of_starting starts.BadSpacing = faults.Spacing
of_starting starts.OutOfMemory = faults.OutOfMemory

-- why no script was read: the fault of reading it, and never lack of memory
abbrev pub TellsFault : BenchFault → Result PlainScript ScriptFault → Type 0
TellsFault (faults.Script fault) read = Refuses fault read
TellsFault fault read = ⊤
