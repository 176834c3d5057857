-- Reading that stops.
use Rattle.std.proofs.Common.{ℕ, ◌+◌, ◌<◌, ◌≤◌, List, ◌++◌, ap, length, length-append, arith}
use Rattle.rb_text.specs.declared.reading.ReadFault.{ReadFault}
use Rattle.rb_text.specs.declared.reading.ReadFault.TheVariants.{Io, OutOfMemory}
use Rattle.rb_text.specs.Reading.{Loses, StopsWithin}

-- what was read is lost with what the failed call lost
pub stops : (fault : ReadFault) (most : ℕ) (read lost : List ℕ) → length read < most → Loses fault lost → length read + length lost ≤ most → StopsWithin fault most (read ++ lost)
stops Io most read lost lt none le = omega (arith, length-append read lost, lt, ap length none)
stops OutOfMemory most read lost lt some le = (omega (arith, length-append read lost, some), omega (arith, length-append read lost, le))
