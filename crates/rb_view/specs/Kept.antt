-- Rows in memory, as texts. (This project's.)
use Rattle.std.specs.Prelude.{ℕ, List, [], ◌∷◌, map}
use Rattle.std.specs.List.{flat_map}
use Rattle.rb_script.specs.Lines.{Line}
use Rattle.rb_view.specs.Rows.{Row, row, text, next_text}

-- each row follows another
abbrev pub texts_of : List Row → List Line
texts_of rows = map next_text rows

-- a row of this name for each line
abbrev pub line_row : List ℕ → Line → Row
line_row name line = row name (text line ∷ [])

abbrev pub line_rows : List ℕ → List Line → List Row
line_rows name lines = map (line_row name) lines

-- one after the other
abbrev pub joined : List Line → List ℕ
joined texts = flat_map (λ (t : Line). t) texts
