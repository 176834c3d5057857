-- Text in double quotes. (This project's.)
use Rattle.std.specs.Prelude.{ℕ, Bool, true, ◌+◌, ◌/◌, ◌%◌, ◌==◌, ◌&&◌, not, nat_le, nat_lt, if◌then◌else◌, List, [], ◌∷◌, ◌++◌}
use Rattle.std.specs.List.{flat_map}

-- one of the sixteen lower-case hexadecimal digits
abbrev pub hex_digit : ℕ → ℕ
hex_digit n = if nat_lt n 10 then n + 48 else n + 87

-- a byte that a terminal shows: from the space, 32, to the tilde, 126
abbrev pub is_printable : ℕ → Bool
is_printable b = nat_le 32 b && nat_le b 126

-- an unescaped byte: a printable one that is neither `"` nor a backslash
abbrev pub is_plain : ℕ → Bool
is_plain b = is_printable b && not (b == 34) && not (b == 92)

-- a byte as `\xNN`, by its two hexadecimal digits
abbrev pub numbered : ℕ → List ℕ
numbered b = 92 ∷ 120 ∷ hex_digit (b / 16 % 16) ∷ hex_digit (b % 16) ∷ []

-- the text of a byte between quotes
abbrev pub escaped : ℕ → List ℕ
escaped b = if is_plain b then b ∷ [] else numbered b

-- the first byte, if there is one, is escaped
abbrev pub begins_numbered : List ℕ → Bool
begins_numbered [] = true
begins_numbered (b ∷ bytes) = not (is_plain b)

-- the bytes in double quotes
unfoldable pub quoted : List ℕ → List ℕ
quoted bytes = 34 ∷ flat_map escaped bytes ++ 34 ∷ []
