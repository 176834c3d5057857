-- The bytes lost by a failed read. (This project's.)
use Rattle.std.specs.Prelude.{◌≡◌, ℕ, ◌<◌, ◌≤◌, List, [], length}
use Rattle.rb_text.specs.declared.reading.ReadFault.{ReadFault}
use Rattle.rb_text.specs.declared.reading.ReadFault.TheVariants.{Io, OutOfMemory}

-- a failed call gives nothing; if memory runs out, the bytes of the call are lost
abbrev pub Loses : ReadFault → List ℕ → Type 0
Loses Io lost = lost ≡ []
Loses OutOfMemory lost = 0 < length lost

-- These bytes, of at most `most`, were read and lost: the source failed before all were read, or memory ran out for some.
abbrev pub StopsWithin : ReadFault → ℕ → List ℕ → Type 0
StopsWithin Io most lost = length lost < most
StopsWithin OutOfMemory most lost = (0 < length lost) × (length lost ≤ most)
