-- The pieces of a text. (This project's.)
use Rattle.std.specs.Prelude.{ℕ, List, decimal}
use Rattle.std.specs.List.{flat_map}
use Rattle.rb_text.specs.declared.piece.Piece.{Piece}
use Rattle.rb_text.specs.declared.piece.Piece.TheVariants as pieces
use Rattle.rb_text.specs.Json.{byte_text}

abbrev pub piece_text : Piece → List ℕ
piece_text (pieces.Bytes bytes) = bytes.now
piece_text (pieces.Number n) = decimal n
piece_text (pieces.Escaped json bytes) = flat_map (byte_text json) bytes.now
