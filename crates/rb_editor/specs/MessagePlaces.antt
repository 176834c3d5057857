-- What is sent of the message that a line is about: where it is sent, and where it arrives or is lost. (LSP 3.17, "Location" and "DocumentHighlight": kind
-- 2 reads, 3 writes. A range of a whole line ends where the next line begins.)
use Rattle.std.specs.Prelude.{ℕ, ◌+◌, Bool, true, false, if◌then◌else◌, List, [], ◌++◌, codes, Option, Some, None}
use Rattle.std.specs.List.{flat_map}
use Rattle.rb_script.specs.Lines.{lines}
use Rattle.rb_text.specs.Json.{escaped}
use Rattle.rb_lsp.specs.declared.document.position.Encoding.{Encoding}
use Rattle.rb_lsp.specs.declared.document.position.Position.{Position}
use Rattle.rb_lsp.specs.Tables.{start_of}
use Rattle.rb_editor.specs.Layouts.{line_at}
use Rattle.rb_editor.specs.Messages.{message_lines}
use Rattle.rb_editor.specs.Texts.{range_member, range_text}
use Rattle.rb_editor.specs.declared.actions.message_lines.MessageLines.{MessageLines}

-- ---- a line

-- a line of a document
unfoldable pub location_text : Encoding → List ℕ → List ℕ → ℕ → List ℕ
location_text encoding uri text n =
    codes "{\"uri\":\"" ++ (flat_map escaped uri ++ (codes "\",\"range\":" ++ (range_text (start_of encoding n text) (start_of encoding (n + 1) text) ++ codes "}")))

-- a line on which a message is sent, or on which it isn't
abbrev pub kind_text : Bool → List ℕ
kind_text is_sent = if is_sent then codes ",\"kind\":3}" else codes ",\"kind\":2}"

unfoldable pub highlight_text : Encoding → List ℕ → Bool → ℕ → List ℕ
highlight_text encoding text is_sent n = range_member (start_of encoding n text) (start_of encoding (n + 1) text) ++ kind_text is_sent

-- ---- lines

-- the first of two texts, a comma, and the other, as far as there are two
abbrev pub both : (ℕ → List ℕ) → (ℕ → List ℕ) → Option ℕ → Option ℕ → List ℕ
both first second None None = []
both first second None (Some n) = second n
both first second (Some m) None = first m
both first second (Some m) (Some n) = first m ++ (codes "," ++ second n)

abbrev pub locations : Encoding → List ℕ → List ℕ → Option ℕ → Option ℕ → List ℕ
locations encoding uri text sent ended = codes "[" ++ (both (location_text encoding uri text) (location_text encoding uri text) sent ended ++ codes "]")

abbrev pub highlights : Encoding → List ℕ → MessageLines → List ℕ
highlights encoding text found =
    codes "[" ++ (both (λ n. highlight_text encoding text true n) (λ n. highlight_text encoding text false n) found.sent found.ended ++ codes "]")

-- ---- answers

-- the lines of the message at a position
abbrev pub message_at : Encoding → Position → List ℕ → MessageLines
message_at encoding position text = message_lines (lines text) (line_at encoding position text)

abbrev pub location_or_null : Encoding → List ℕ → List ℕ → Option ℕ → List ℕ
location_or_null encoding uri text None = codes "null"
location_or_null encoding uri text (Some n) = location_text encoding uri text n

-- where the message at a position is sent
unfoldable pub definition : Encoding → Position → List ℕ → List ℕ → List ℕ
definition encoding position uri text = location_or_null encoding uri text (message_at encoding position text).sent

abbrev pub kept_if : Bool → Option ℕ → Option ℕ
kept_if is_kept line = if is_kept then line else None

-- where it is sent, if that is asked for, and where it arrives or is lost
unfoldable pub references : Encoding → Position → Bool → List ℕ → List ℕ → List ℕ
references encoding position includes uri text =
    locations encoding uri text (kept_if includes (message_at encoding position text).sent) (message_at encoding position text).ended

unfoldable pub highlighted : Encoding → Position → List ℕ → List ℕ
highlighted encoding position text = highlights encoding text (message_at encoding position text)
