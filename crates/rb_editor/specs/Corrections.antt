-- Quick fixes that replace a wrong word by the one that was probably meant. (LSP 3.17, "Code Action Request".)
use Rattle.std.specs.Prelude.{ℕ, ◌+◌, ◌-◌, ◌==◌, Bool, ◌||◌, min, if◌then◌else◌, List, [], ◌∷◌, ◌++◌, codes, length, slice_index_or, Option, Some, None}
use Rattle.std.specs.List.{flat_map}
use Rattle.std.specs.Str.{bytes_eq}
use Rattle.rb_script.specs.Lines.{Line, lines}
use Rattle.rb_script.specs.Marks.{is_space}
use Rattle.rb_script.specs.Directive.{PlainDirective}
use Rattle.rb_script.specs.Script.{PlainBlock}
use Rattle.rb_script.specs.Reading.{directive_of}
use Rattle.rb_text.specs.Json.{escaped}
use Rattle.rb_report.specs.Suggestions.{suggested_word, wrong_word}
use Rattle.rb_lsp.specs.declared.document.position.Encoding.{Encoding}
use Rattle.rb_lsp.specs.declared.document.position.Position.{Position}
use Rattle.rb_lsp.specs.Places.{offset, position_of}
use Rattle.rb_lsp.specs.Tables.{start_of}
use Rattle.rb_editor.specs.Texts.{range_member}
use Rattle.rb_editor.specs.declared.actions.extent.LineSpan.{LineSpan}
use Rattle.rb_editor.specs.Extents.{extent_of, has_line}

-- the byte ends a word of a head
abbrev pub ends_word : ℕ → Bool
ends_word b = is_space b || (b == 61 || (b == 40 || (b == 41 || b == 44)))

-- Where the word begins: after a column, at which another began whose bytes so far are these, and before what is left of the line.
abbrev pub column_in : List ℕ → ℕ → List ℕ → List ℕ → Option ℕ
column_in word from piece [] = if bytes_eq piece word then Some from else None
column_in word from piece (b ∷ line) =
    if ends_word b then (if bytes_eq piece word then Some from else column_in word (from + length piece + 1) [] line) else column_in word from (piece ++ b ∷ []) line

unfoldable pub word_column : List ℕ → Line → Option ℕ
word_column word line = column_in word 0 [] line

-- the position of a column of a line, counted in bytes
abbrev pub column_at : Encoding → List ℕ → ℕ → ℕ → Position
column_at encoding text line column = position_of encoding (min (offset encoding (start_of encoding line text) text + column) (length text)) text

-- the edit, and the end of its action
unfoldable pub replacement_edit : Position → Position → List ℕ → List ℕ
replacement_edit start end word = range_member start end ++ (codes ",\"newText\":\"" ++ (flat_map escaped word ++ codes "\"}]}}}"))

unfoldable pub replacement_text : List ℕ → Position → Position → List ℕ → List ℕ
replacement_text uri start end word =
    (codes "{\"title\":\"Replace with " ++ (flat_map escaped word ++ (codes "\",\"kind\":\"quickfix\",\"edit\":{\"changes\":{\"" ++ (flat_map escaped uri ++ codes "\":["))))
    ++ replacement_edit start end word

-- an action that replaces a word of this length, at a column of a line
abbrev pub at_column : Encoding → List ℕ → List ℕ → ℕ → ℕ → List ℕ → Option ℕ → List ℕ
at_column encoding uri text line len word None = []
at_column encoding uri text line len word (Some column) = replacement_text uri (column_at encoding text line column) (column_at encoding text line (column + len)) word

abbrev pub for_word : Encoding → List ℕ → List ℕ → ℕ → Line → List ℕ → Option (List ℕ) → List ℕ
for_word encoding uri text line front wrong None = []
for_word encoding uri text line front wrong (Some word) = at_column encoding uri text line (length wrong) word (word_column wrong front)

-- that of a directive whose head begins on a line, with these bytes
abbrev pub directive_correction : Encoding → List ℕ → List ℕ → ℕ → Line → PlainDirective → List ℕ
directive_correction encoding uri text line front d = for_word encoding uri text line front (wrong_word d) (suggested_word d)

-- that of a block whose head begins on the line, counted from 1, if it has one of the lines
abbrev pub correction : Encoding → List ℕ → List ℕ → LineSpan → ℕ → PlainBlock → List ℕ
correction encoding uri text span line b =
    if has_line span.first span.last (extent_of (lines text) line b) then directive_correction encoding uri text (line - 1) (slice_index_or (lines text) (line - 1) []) (directive_of b) else []

abbrev pub or_text : List ℕ → List ℕ → List ℕ
or_text text other = if length text == 0 then other else text

-- the first of some
abbrev pub corrections : Encoding → List ℕ → List ℕ → LineSpan → List ℕ → List PlainBlock → List ℕ
corrections encoding uri text span (line ∷ heads) (b ∷ bs) = or_text (correction encoding uri text span line b) (corrections encoding uri text span heads bs)
corrections encoding uri text span heads bs = []
