-- The pieces of a text. (This project's.)
use Rattle.std.specs.Prelude.{ℕ, ◌==◌, if◌then◌else◌, List, [], ◌++◌, codes, decimal}
use Rattle.rb_report.specs.Names.{shown_name}
use Rattle.rb_report.specs.declared.check.piece.ReportPiece.{ReportPiece}
use Rattle.rb_report.specs.declared.check.piece.ReportPiece.TheVariants as pieces

-- a count of something, after a comma; nothing if it is 0
abbrev pub count_text : ℕ → List ℕ → List ℕ
count_text n noun = if n == 0 then [] else codes ", " ++ (decimal n ++ noun)

-- the noun for one, or for several
abbrev pub noun : ℕ → List ℕ → List ℕ → List ℕ
noun n one many = if n == 1 then one else many

abbrev pub piece_text : ReportPiece → List ℕ
piece_text (pieces.Bytes bytes) = bytes.now
piece_text (pieces.Name name) = shown_name name.now
piece_text (pieces.Number n) = decimal n
piece_text (pieces.Count n word) = count_text n word.now
