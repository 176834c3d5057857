-- What is written into a site. (This project's.)
use Rattle.std.specs.Prelude.{◌≡◌, ℕ, List, ◌++◌, Option, Some, None}

-- the path of a file, and its text
abbrev pub SiteFile : Type 0
SiteFile = List ℕ × List ℕ

-- these files were written after the others, if it is known which were written
abbrev pub AddsFiles : Option (List SiteFile) → Option (List SiteFile) → List SiteFile → Type 0
AddsFiles None new files = Unit {0}
AddsFiles (Some before) None files = ⊥
AddsFiles (Some before) (Some after) files = after ≡ before ++ files
