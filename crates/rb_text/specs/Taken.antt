-- The bytes that a reader of lines consumes. (This project's.)
use Rattle.std.specs.Prelude.{◌≡◌, ◌≤◌, ◌⊎◌, ℕ, List, [], ◌∷◌, ◌++◌, Option, false, length, ⊤}
use Rattle.std.specs.Io.KnownBytes.{Consumes}
use Rattle.rb_script.specs.Lines.{without_returns}
use Rattle.rb_script.specs.declared.limits.TheConstants.{MAX_LINE}
use Rattle.rb_text.specs.Begun.{HasNoNewline}
use Rattle.rb_text.specs.Left.{left_of}
use Rattle.rb_text.specs.declared.line_reader.LineReader.{LineReader}
use Rattle.rb_text.specs.declared.line_reader.Next.{Next}
use Rattle.rb_text.specs.declared.line_reader.Next.TheVariants as next

-- whole lines with their ends, or nothing
abbrev pub AreWhole : List ℕ → Type 0
AreWhole bytes = (bytes ≡ []) ⊎ ((front : List ℕ) × (bytes ≡ front ++ 10 ∷ []))

-- the source's end isn't reached, and the consumed bytes are whole lines
pub record TookWhole (lines later : LineReader) (left after : Option (List ℕ)) : Type 0 where
  pub going : lines.has_ended ≡ false
  pub bytes : List ℕ
  pub are_whole : AreWhole bytes
  pub taken : Consumes (left_of lines left) (left_of later after) bytes

-- the same, unless the source's end is reached
abbrev pub TakesWhole : LineReader → LineReader → Option (List ℕ) → Option (List ℕ) → Type 0
TakesWhole lines later left after = later.has_ended ≡ false → TookWhole lines later left after

-- a line is consumed with its end, unless it is the last one and has none
abbrev pub TakesNext : Next → LineReader → LineReader → Option (List ℕ) → Option (List ℕ) → Type 0
TakesNext next.Line lines later left after = TakesWhole lines later left after
TakesNext next.TooLong lines later left after = ⊤
TakesNext next.End lines later left after = ⊤

-- A call failed, or none was left, within a line that isn't too long yet. All bytes of the source are consumed.
pub record StopsInLine (lines : LineReader) (left after : Option (List ℕ)) : Type 0 where
  pub going : lines.has_ended ≡ false
  pub begun : List ℕ
  pub no_newline : HasNoNewline begun
  pub short : length (without_returns begun) ≤ MAX_LINE
  pub lost : Consumes (left_of lines left) after begun
