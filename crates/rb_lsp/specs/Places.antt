-- Positions of an editor in a text. (LSP 3.17, "Text Documents" and "Position". A text is its bytes, in UTF-8.)
use Rattle.std.specs.Prelude.{ℕ, zero, suc, ◌+◌, ◌-◌, Bool, true, false, ◌&&◌, ◌||◌, ◌==◌, not, nat_lt, if◌then◌else◌, List, [], ◌∷◌, drop}
use Rattle.rb_lsp.specs.declared.document.position.Encoding.{Encoding}
use Rattle.rb_lsp.specs.declared.document.position.Encoding.TheVariants.{Utf8, Utf16}
use Rattle.rb_lsp.specs.declared.document.position.Position.{Position}

-- the text continues with a line feed
abbrev pub feeds : List ℕ → Bool
feeds [] = false
feeds (b ∷ bytes) = b == 10

-- LF ends a line, and so do CR LF and CR alone
abbrev pub ends_line : ℕ → List ℕ → Bool
ends_line b rest = b == 10 || (b == 13 && not (feeds rest))

-- the byte is of a line's end
abbrev pub is_end : ℕ → Bool
is_end b = b == 10 || b == 13

-- the bytes before line n; all bytes if there are fewer lines
unfoldable pub line_start : ℕ → List ℕ → ℕ
line_start zero bytes = 0
line_start (suc n) [] = 0
line_start (suc n) (b ∷ bytes) = suc (if ends_line b bytes then line_start n bytes else line_start (suc n) bytes)

-- the byte continues a character
abbrev pub is_within : ℕ → Bool
is_within b = not (nat_lt b 128) && nat_lt b 192

-- How many units the character has that a byte begins; none where the byte is within one. In UTF-16 a character of four bytes has two.
abbrev pub units : Encoding → ℕ → ℕ
units Utf8 b = if nat_lt b 128 then 1 else (if nat_lt b 192 then 0 else (if nat_lt b 224 then 2 else (if nat_lt b 240 then 3 else 4)))
units Utf16 b = if nat_lt b 128 then 1 else (if nat_lt b 192 then 0 else (if nat_lt b 240 then 1 else 2))

-- The bytes of a line before so many units. What is after the line's end is its end; what is within a character, the
-- character's beginning.
unfoldable pub column : Encoding → ℕ → List ℕ → ℕ
column encoding n [] = 0
column encoding n (b ∷ bytes) =
    if is_end b then 0 else (if nat_lt n (units encoding b) then 0 else suc (column encoding (n - units encoding b) bytes))

-- the bytes before a line and a column
abbrev pub offset_at : Encoding → ℕ → ℕ → List ℕ → ℕ
offset_at encoding line character bytes = line_start line bytes + column encoding character (drop (line_start line bytes) bytes)

-- the bytes before a position
abbrev pub offset : Encoding → Position → List ℕ → ℕ
offset encoding p bytes = offset_at encoding p.line p.character bytes

-- ---- the position of a place

abbrev pub START : Position
START = record { line = 0; character = 0 }

-- the position with a line before it
abbrev pub below : Position → Position
below p = record { line = suc p.line; character = p.character }

-- the position with n units before it
abbrev pub beside_at : ℕ → ℕ → ℕ → Position
beside_at n zero character = record { line = 0; character = n + character }
beside_at n (suc line) character = record { line = suc line; character = character }

abbrev pub beside : ℕ → Position → Position
beside n p = beside_at n p.line p.character

-- the position of offset k
unfoldable pub position_of : Encoding → ℕ → List ℕ → Position
position_of encoding zero bytes = START
position_of encoding (suc k) [] = START
position_of encoding (suc k) (b ∷ bytes) =
    if ends_line b bytes then below (position_of encoding k bytes) else beside (units encoding b) (position_of encoding k bytes)

-- the position after one more byte, which these follow
abbrev pub next_position : Encoding → ℕ → List ℕ → Position → Position
next_position encoding b rest p =
    if ends_line b rest then record { line = p.line + 1; character = 0 } else record { line = p.line; character = p.character + units encoding b }

-- a character begins here, or nothing is left
abbrev pub begins : List ℕ → Bool
begins [] = true
begins (b ∷ bytes) = not (is_within b)

-- neither a character nor CR LF is cut in two between this byte and these
abbrev pub stands_between : ℕ → List ℕ → Bool
stands_between before rest = begins rest && not (before == 13 && feeds rest)

-- offset k after this byte is neither within a character nor between CR and LF
unfoldable pub is_place_behind : ℕ → ℕ → List ℕ → Bool
is_place_behind before zero bytes = stands_between before bytes
is_place_behind before (suc k) [] = false
is_place_behind before (suc k) (b ∷ bytes) = is_place_behind b k bytes

-- a place that has a position: neither within a character nor between CR and LF
abbrev pub is_place : ℕ → List ℕ → Bool
is_place k text = is_place_behind 0 k text
