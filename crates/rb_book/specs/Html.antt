-- Bytes as they are in HTML, and in its addresses. (WHATWG, HTML, 13.1.4; RFC 3986, 2.1 and 2.3.)
use Rattle.std.specs.Prelude.{ℕ, ◌==◌, ◌&&◌, ◌||◌, ◌/◌, ◌%◌, Bool, nat_le, if◌then◌else◌, List, [], ◌∷◌, codes}
use Rattle.std.specs.List.{flat_map}
use Rattle.rb_text.specs.Json.{hex_digit}
use Rattle.rb_book.specs.declared.piece.HtmlPart.{HtmlPart}
use Rattle.rb_book.specs.declared.piece.HtmlPart.TheVariants as parts
use Rattle.rb_book.specs.declared.piece.HtmlPiece.{HtmlPiece}
use Rattle.rb_book.specs.declared.piece.HtmlPiece.TheVariants as pieces

-- in a text, or in the value of an attribute
abbrev pub text_byte : ℕ → List ℕ
text_byte b = if b == 38 then codes "&amp;" else (if b == 60 then codes "&lt;" else (if b == 62 then codes "&gt;" else (if b == 34 then codes "&quot;" else b ∷ [])))

-- a letter, a digit, or one of - . / _ ~
abbrev pub is_plain : ℕ → Bool
is_plain b = (nat_le 97 b && nat_le b 122) || ((nat_le 65 b && nat_le b 90) || ((nat_le 45 b && nat_le b 57) || (b == 95 || b == 126)))

-- in an address; a byte that isn't plain is a percent sign and its two digits
abbrev pub address_byte : ℕ → List ℕ
address_byte b = if is_plain b then b ∷ [] else 37 ∷ hex_digit (b / 16) ∷ hex_digit (b % 16) ∷ []

-- of a file's place: a step up for each folder
abbrev pub way_up : ℕ → List ℕ
way_up b = if b == 47 then codes "../" else []

abbrev pub byte_text : HtmlPart → ℕ → List ℕ
byte_text parts.Text = text_byte
byte_text parts.Address = address_byte
byte_text parts.WayUp = way_up

abbrev pub text_of : List ℕ → List ℕ
text_of = flat_map text_byte

abbrev pub address_of : List ℕ → List ℕ
address_of = flat_map address_byte

-- from the folder of a file to the site's own folder
abbrev pub up_from : List ℕ → List ℕ
up_from = flat_map way_up

abbrev pub piece_text : HtmlPiece → List ℕ
piece_text (pieces.Bytes bytes) = bytes.now
piece_text (pieces.Text bytes) = text_of bytes.now
piece_text (pieces.Address bytes) = address_of bytes.now
piece_text (pieces.WayUp bytes) = up_from bytes.now
