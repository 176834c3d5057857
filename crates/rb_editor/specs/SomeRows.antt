-- The rows that a page of a text has of some directives. (docs/FORMATS.md. The request is this project's.)
use Rattle.std.specs.Prelude.{ℕ, ◌-◌, min, if◌then◌else◌, List, codes, length, Result, Ok, Err}
use Rattle.rb_script.specs.declared.fault.ScriptFault.{ScriptFault}
use Rattle.rb_script.specs.Lines.{Line}
use Rattle.rb_script.specs.Script.{PlainScript}
use Rattle.rb_script.specs.Reading.{read_of}
use Rattle.rb_view.specs.PageRoom.{has_room}
use Rattle.rb_view.specs.Pages.{rows_joined}
use Rattle.rb_view.specs.SomeSteps.{some_texts}
use Rattle.rb_lsp.specs.declared.server.item_span.ItemSpan.{ItemSpan}
use Rattle.rb_editor.specs.Findings.{slips_of}
use Rattle.rb_editor.specs.Heads.{heads_of}

-- how many of so many directives are before a span, and in it
abbrev pub first_of : ItemSpan → ℕ → ℕ
first_of span n = min span.from n

abbrev pub count_of : ItemSpan → ℕ → ℕ
count_of span n = min span.count (n - first_of span n)

-- the rows of the script that a text is
abbrev pub rows_in : ItemSpan → List ℕ → PlainScript → List Line
rows_in span text s = some_texts (heads_of text s) (slips_of text s) (first_of span (length s.blocks)) (count_of span (length s.blocks)) s

-- after a row that names the document; `null` if a page has no room for them
abbrev pub rows_text : List ℕ → List Line → List ℕ
rows_text uri texts = if has_room texts then rows_joined uri texts else codes "null"

-- of a text that is read so; `null` if it is no script
abbrev pub rows_by : ItemSpan → List ℕ → List ℕ → Result PlainScript ScriptFault → List ℕ
rows_by span uri text (Err fault) = codes "null"
rows_by span uri text (Ok s) = rows_text uri (rows_in span text s)

unfoldable pub rows : ItemSpan → List ℕ → List ℕ → List ℕ
rows span uri text = rows_by span uri text (read_of text)
