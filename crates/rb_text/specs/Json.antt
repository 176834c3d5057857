-- Bytes escaped for a string of JSON. (RFC 8259, section 7. Which bytes are escaped is this project's choice; for a page it follows the
-- HTML standard, where text without `<` and `&` can't end a script element.)
use Rattle.std.specs.Prelude.{ℕ, Bool, ◌+◌, ◌/◌, ◌%◌, ◌==◌, ◌&&◌, not, nat_le, nat_lt, if◌then◌else◌, List, [], ◌∷◌}
use Rattle.rb_text.specs.declared.json.Json.{Json}
use Rattle.rb_text.specs.declared.json.Json.TheVariants.{Utf8, Ascii, Page}

-- the lower-case hexadecimal digit of a number below 16
abbrev pub hex_digit : ℕ → ℕ
hex_digit n = if nat_lt n 10 then n + 48 else n + 87

-- not one of `<`, `>` and `&`
abbrev pub is_no_mark : ℕ → Bool
is_no_mark b = not (b == 60) && not (b == 62) && not (b == 38)

-- an unescaped byte: not a control character, `"` or a backslash; in a page only printable bytes without `<`, `>` and `&`
abbrev pub is_plain : Json → ℕ → Bool
is_plain Utf8 b = nat_le 32 b && not (b == 34) && not (b == 92)
is_plain Ascii b = nat_le 32 b && nat_lt b 128 && not (b == 34) && not (b == 92)
is_plain Page b = nat_le 32 b && nat_le b 126 && not (b == 34) && not (b == 92) && is_no_mark b

-- a byte as `\u00NN`, by its two hexadecimal digits
abbrev pub numbered : ℕ → List ℕ
numbered b = 92 ∷ 117 ∷ 48 ∷ 48 ∷ hex_digit (b / 16 % 16) ∷ hex_digit (b % 16) ∷ []

-- the text of a byte
abbrev pub byte_text : Json → ℕ → List ℕ
byte_text json b = if is_plain json b then b ∷ [] else numbered b

-- in UTF-8
abbrev pub escaped : ℕ → List ℕ
escaped = byte_text Utf8

-- in ASCII
abbrev pub ascii : ℕ → List ℕ
ascii = byte_text Ascii

-- in a page
abbrev pub in_page : ℕ → List ℕ
in_page = byte_text Page
