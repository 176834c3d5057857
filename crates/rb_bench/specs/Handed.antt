-- Flushing. (This project's.)
use Rattle.std.specs.Prelude.{◌≡◌, ℕ, List, Option, Some, None, ⊤}

-- everything written is flushed, if it is known
abbrev pub IsHandedOn : Option (List ℕ) → Option (List ℕ) → Type 0
IsHandedOn None held = ⊤
IsHandedOn (Some bytes) None = ⊥
IsHandedOn (Some bytes) (Some all) = bytes ≡ all
