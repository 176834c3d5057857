-- The pieces of a line. (This project's.)
use Rattle.std.specs.Prelude.{ℕ, decimal, List, ◌++◌}
use Rattle.std.specs.List.{flat_map}
use Rattle.rb_texts.specs.declared.piece.LinePiece.{LinePiece}
use Rattle.rb_texts.specs.declared.piece.LinePiece.TheVariants as pieces
use Rattle.rb_texts.specs.Quoted.{quoted}
use Rattle.rb_texts.specs.Configs.{ids_text}
use Rattle.rb_texts.specs.Entries.{place_text}

abbrev pub piece_text : LinePiece → List ℕ
piece_text (pieces.Bytes bytes) = bytes.now
piece_text (pieces.Number n) = decimal n
piece_text (pieces.Field name n) = name.now ++ decimal n
piece_text (pieces.Place term index) = place_text term index
piece_text (pieces.Quoted bytes) = quoted bytes.now
piece_text (pieces.Ids ids) = ids_text ids.now

abbrev pub pieces_text : List LinePiece → List ℕ
pieces_text ps = flat_map piece_text ps
