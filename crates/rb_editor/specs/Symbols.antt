-- The outline of a text. (LSP 3.17, "DocumentSymbol": kind 24 is an event. A range of whole lines ends where the next line begins.)
use Rattle.std.specs.Prelude.{ℕ, zero, suc, if◌then◌else◌, List, [], ◌∷◌, ◌++◌, codes, slice_index_or}
use Rattle.std.specs.List.{flat_map}
use Rattle.rb_script.specs.Lines.{Line, lines}
use Rattle.rb_script.specs.Marks.{trim_blanks}
use Rattle.rb_text.specs.Json.{escaped}
use Rattle.rb_report.specs.Names.{shown_name}
use Rattle.rb_lsp.specs.declared.document.position.Encoding.{Encoding}
use Rattle.rb_lsp.specs.declared.document.position.Position.{Position}
use Rattle.rb_lsp.specs.Places.{is_within}
use Rattle.rb_lsp.specs.Tables.{start_of}
use Rattle.rb_editor.specs.declared.offers.block_lines.BlockLines.{BlockLines}
use Rattle.rb_editor.specs.declared.offers.symbols.TheConstants.{MAX_NAME}
use Rattle.rb_editor.specs.BlockLines.{blocks_of}
use Rattle.rb_editor.specs.Texts.{list_text, range_text}

-- the first n characters of bytes in UTF-8, whole
unfoldable pub first_characters : ℕ → List ℕ → List ℕ
first_characters n [] = []
first_characters zero (b ∷ bytes) = if is_within b then b ∷ first_characters zero bytes else []
first_characters (suc n) (b ∷ bytes) = b ∷ (if is_within b then first_characters (suc n) bytes else first_characters n bytes)

-- the name of a directive: the first line of its head without blanks at its front, cut at the longest name
abbrev pub name_of : List Line → ℕ → List ℕ
name_of ls from = first_characters MAX_NAME (trim_blanks (slice_index_or ls from []))

-- the name, in which nothing acts, and the kind of the symbol of a block whose head begins on a line
unfoldable pub name_text : List Line → ℕ → List ℕ
name_text ls from = codes "{\"name\":\"" ++ (flat_map escaped (shown_name (name_of ls from)) ++ codes "\",\"kind\":24,\"range\":")

-- the symbol of a block between these positions, of which its head is selected
unfoldable pub symbol_at : List Line → ℕ → Position → Position → Position → List ℕ
symbol_at ls from start behind_head end = name_text ls from ++ (range_text start end ++ (codes ",\"selectionRange\":" ++ (range_text start behind_head ++ codes "}")))

-- from its head to the end of its expectation
abbrev pub symbol_text : Encoding → List ℕ → BlockLines → List ℕ
symbol_text encoding text b = symbol_at (lines text) b.from (start_of encoding b.from text) (start_of encoding b.body text) (start_of encoding b.end text)

unfoldable pub symbols : Encoding → List ℕ → List ℕ
symbols encoding text = list_text (symbol_text encoding text) (blocks_of text)
