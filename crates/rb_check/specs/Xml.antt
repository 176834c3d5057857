-- Bytes as they are in XML: printable ASCII, and all other bytes by their numbers, so that a script's bytes are neither markup nor bytes that XML
-- doesn't have. (W3C, Extensible Markup Language 1.0, 2.2 and 2.4.)
use Rattle.std.specs.Prelude.{ℕ, ◌==◌, if◌then◌else◌, List, ◌++◌, Option, Some, None, codes, decimal}
use Rattle.std.specs.List.{flat_map}
use Rattle.rb_report.specs.Names.{shown_name}
use Rattle.rb_check.specs.Commands.{without_front}
use Rattle.rb_check.specs.Visible.{visible_byte}
use Rattle.rb_check.specs.declared.xml.XmlPart.{XmlPart}
use Rattle.rb_check.specs.declared.xml.XmlPart.TheVariants.{Text, Value}
use Rattle.rb_check.specs.declared.xml.XmlPiece.{XmlPiece}
use Rattle.rb_check.specs.declared.xml.XmlPiece.TheVariants as pieces

-- in the text of an element
abbrev pub in_text : ℕ → List ℕ
in_text b =
    if b == 38 then codes "&amp;" else (if b == 60 then codes "&lt;" else (if b == 62 then codes "&gt;" else (if b == 34 then codes "&quot;" else visible_byte b)))

-- in the value of an attribute, where ends of lines and tabs would be taken for blanks
abbrev pub in_value : ℕ → List ℕ
in_value b = if b == 10 then codes "&#10;" else (if b == 9 then codes "&#9;" else in_text b)

abbrev pub byte_text : XmlPart → ℕ → List ℕ
byte_text Text = in_text
byte_text Value = in_value

-- the end of an attribute and of the front of an element, with the attribute of a line between them, if there is one
abbrev pub line_end : Option ℕ → List ℕ
line_end None = codes "\">"
line_end (Some line) = codes "\" line=\"" ++ (decimal line ++ codes "\">")

abbrev pub piece_text : XmlPiece → List ℕ
piece_text (pieces.Bytes bytes) = bytes.now
piece_text (pieces.Name name) = shown_name name.now
piece_text (pieces.Number n) = decimal n
piece_text (pieces.Text bytes) = flat_map in_text bytes.now
piece_text (pieces.Value bytes) = flat_map in_value bytes.now
piece_text (pieces.File path) = flat_map in_value (without_front (codes "./") path.now)
piece_text (pieces.LineEnd line) = line_end line
