-- The next line of known bytes. (This project's; rb_script's Lines say what a line is.)
use Rattle.std.specs.Prelude.{◌≡◌, ◌<◌, ◌≤◌, ℕ, List, [], ◌∷◌, Option, Some, None, IfSome, length, ⊤}
use Rattle.std.specs.Io.KnownBytes.{Consumes, IsAtEnd}
use Rattle.rb_script.specs.Lines.{Line, lines}
use Rattle.rb_script.specs.declared.limits.TheConstants.{MAX_LINE}
use Rattle.rb_text.specs.Begun.{TurnsLong}
use Rattle.rb_text.specs.declared.line_reader.Next.{Next}
use Rattle.rb_text.specs.declared.line_reader.Next.TheVariants as next

-- this is the first line of known bytes, and it is consumed
abbrev pub LosesLine : Option (List ℕ) → Option (List ℕ) → Line → Type 0
LosesLine None left line = ⊤
LosesLine (Some all) None line = ⊥
LosesLine (Some all) (Some left) line = lines all ≡ line ∷ lines left

-- known bytes are consumed until their first line is known to be too long
abbrev pub LosesLong : Option (List ℕ) → Option (List ℕ) → Type 0
LosesLong before after = (begun : List ℕ) × TurnsLong begun × Consumes before after begun

-- the first of the lines is too long
abbrev pub IsFirstLong : List Line → Type 0
IsFirstLong [] = ⊥
IsFirstLong (line ∷ ls) = MAX_LINE < length line

-- reading the next line, with these bytes left before and after
abbrev pub GivesNext : Next → Option (List ℕ) → Option (List ℕ) → Line → Type 0
GivesNext next.Line before after line = LosesLine before after line × (length line ≤ MAX_LINE)
GivesNext next.TooLong before after line = IfSome before (λ all. IsFirstLong (lines all)) × LosesLong before after
GivesNext next.End before after line = IsAtEnd before × (after ≡ Some [])
