-- Names of files and words of arguments as they are shown, so that nothing of them ends a line or acts in a terminal or a log. (This project's; which
-- characters act is ECMA-48's and Unicode's: Standard Annex 9, table 3, and the default ignorable code points of general punctuation and tags.)
use Rattle.std.specs.Prelude.{ℕ, Bool, ◌/◌, ◌%◌, ◌==◌, ◌&&◌, ◌||◌, not, nat_le, nat_lt, if◌then◌else◌, List, [], ◌∷◌, chars}
use Rattle.std.specs.List.{flat_map, list_any}
use Rattle.std.specs.Str.{is_utf8}
use Rattle.rb_text.specs.Json.{hex_digit}

-- a control character of ASCII: ends of lines and tabs are some
abbrev pub is_control : ℕ → Bool
is_control b = nat_lt b 32 || (b == 127)

-- a character past ASCII that acts or isn't seen: a control character, an end of a line, a mark that turns the direction of what is read, a space or a joiner
-- of no width, an operator or a tag that isn't seen, the byte order mark
abbrev pub acts_past_ascii : ℕ → Bool
acts_past_ascii c =
    (nat_le 128 c && nat_lt c 160)
    || ((c == 1564) || ((nat_le 8203 c && nat_le c 8207) || ((nat_le 8232 c && nat_le c 8238) || ((nat_le 8288 c && nat_le c 8297) || ((c == 65279) || (nat_le 917504 c && nat_le c 917631))))))

-- bytes with such a character, or that are no text
abbrev pub has_acting_char : List ℕ → Bool
has_acting_char bytes = not (is_utf8 bytes) || list_any acts_past_ascii (chars bytes)

-- something of a name acts
abbrev pub acts_in_line : List ℕ → Bool
acts_in_line name = list_any is_control name || has_acting_char name

-- a byte as `\xNN`, by its two hexadecimal digits
abbrev pub by_number : ℕ → List ℕ
by_number b = 92 ∷ 120 ∷ hex_digit (b / 16 % 16) ∷ hex_digit (b % 16) ∷ []

-- printable ASCII but for the backslash
abbrev pub is_printable : ℕ → Bool
is_printable b = nat_le 32 b && (nat_le b 126 && not (b == 92))

abbrev pub name_byte : ℕ → List ℕ
name_byte b = if is_printable b then b ∷ [] else by_number b

-- a name as it is, or, if something of it acts, in printable ASCII
abbrev pub shown_name : List ℕ → List ℕ
shown_name name = if acts_in_line name then flat_map name_byte name else name

-- printable ASCII
abbrev pub is_visible : ℕ → Bool
is_visible b = nat_le 32 b && nat_le b 126
