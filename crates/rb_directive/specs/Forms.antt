-- The values of words. (This project's.)
use Rattle.std.specs.Prelude.{ℕ, Bool, true, false, nat_le, ◌&&◌, if◌then◌else◌, codes, List, Option, Some, None}
use Rattle.std.specs.Str.{bytes_eq}
unfoldable pub use Rattle.rb_vocab.specs.Transitions.{transition_of}

abbrev pub Word : Type 0
Word = List ℕ

abbrev pub is_within : ℕ → ℕ → ℕ → Bool
is_within low high n = nat_le low n && nat_le n high

-- the number, if it is from `low` to `high`
abbrev pub within : ℕ → ℕ → Option ℕ → Option ℕ
within low high None = None
within low high (Some n) = if is_within low high n then Some n else None

unfoldable pub flag_of : Word → Option Bool
flag_of w =
    if bytes_eq w (codes "true") then Some true
    else (if bytes_eq w (codes "false") then Some false
    else None)
