-- What elements are put together of. (This project's.)
use Rattle.std.specs.Prelude.{ℕ, decimal, List}
use Rattle.std.specs.List.{flat_map}
use Rattle.rb_view.specs.declared.chart.piece.SvgPiece.{SvgPiece}
use Rattle.rb_view.specs.declared.chart.piece.SvgPiece.TheVariants as pieces
use Rattle.rb_view.specs.XmlEscapes.{escaped}

-- bytes as they are, a number in decimal digits, or words as they are in a text of XML
abbrev pub piece_text : SvgPiece → List ℕ
piece_text (pieces.Bytes bytes) = bytes.now
piece_text (pieces.Number n) = decimal n
piece_text (pieces.Words words) = flat_map escaped words.now
