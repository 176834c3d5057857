-- Bytes as they go out, so that none acts in a terminal or a log. (This project's; which bytes act is ECMA-48's and ISO 646's.)
use Rattle.std.specs.Prelude.{ℕ, Bool, ◌==◌, ◌&&◌, ◌||◌, not, nat_le, nat_lt, if◌then◌else◌, List, [], ◌∷◌}
use Rattle.std.specs.List.{flat_map, list_any}
use Rattle.rb_script.specs.Lines.{Line}
use Rattle.rb_report.specs.Names.{by_number, has_acting_char}
use Rattle.rb_check.specs.declared.visible.Showing.{Showing}
use Rattle.rb_check.specs.declared.visible.Showing.TheVariants.{AsIs, Visible, Json}

-- a control character but a tab
abbrev pub acts : ℕ → Bool
acts b = (nat_lt b 32 && not (b == 9)) || (b == 127)

-- an end of a line, a tab, or printable ASCII but for the backslash
abbrev pub stays : ℕ → Bool
stays b = (b == 10) || ((b == 9) || (nat_le 32 b && (nat_le b 126 && not (b == 92))))

abbrev pub visible_byte : ℕ → List ℕ
visible_byte b = if stays b then b ∷ [] else by_number b

-- in JSON all others but DEL are escaped already
abbrev pub json_byte : ℕ → List ℕ
json_byte b = if b == 127 then 92 ∷ 117 ∷ 48 ∷ 48 ∷ 55 ∷ 102 ∷ [] else b ∷ []

abbrev pub byte_shown : Showing → ℕ → List ℕ
byte_shown AsIs b = b ∷ []
byte_shown Visible b = visible_byte b
byte_shown Json b = json_byte b

abbrev pub text_shown : Showing → List ℕ → List ℕ
text_shown AsIs bytes = bytes
text_shown Visible bytes = flat_map (byte_shown Visible) bytes
text_shown Json bytes = flat_map (byte_shown Json) bytes

-- ---- what may go out as it is

abbrev pub is_harmful : List ℕ → Bool
is_harmful line = list_any acts line || has_acting_char line

-- how what is shown of a script goes out, which has these lines
abbrev pub showing_of_lines : List Line → Showing
showing_of_lines lines = if list_any is_harmful lines then Visible else AsIs
