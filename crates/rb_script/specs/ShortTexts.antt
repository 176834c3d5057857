-- A few bytes in places of a fixed number. (This project's.)
use Rattle.std.specs.Prelude.{◌≡◌, ◌≤◌, List, ℕ, length}
use Rattle.rb_script.specs.declared.short_text.TheConstants.{SHORT}

-- n of these places are used
abbrev pub IsShort : List ℕ → ℕ → Type 0
IsShort places len = (len ≤ SHORT) × (length places ≡ SHORT)
