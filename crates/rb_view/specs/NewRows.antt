-- Rows that weren't there before. (This project's.)
use Rattle.std.specs.Prelude.{Bool, if◌then◌else◌, List, [], ◌∷◌}
use Rattle.std.specs.List.{flat_map, list_any}
use Rattle.std.specs.Str.{bytes_eq}
use Rattle.rb_script.specs.Lines.{Line}
use Rattle.rb_view.specs.Kept.{texts_of}
use Rattle.rb_view.specs.Rows.{Row, next_text}

-- the text is one of these
abbrev pub has_text : List Line → Line → Bool
has_text olds text = list_any (bytes_eq text) olds

-- a text, where it isn't one of these
abbrev pub new_of : List Line → Line → List Line
new_of olds text = if has_text olds text then [] else text ∷ []

-- those that aren't among the old ones
abbrev pub new_texts : List Line → List Line → List Line
new_texts olds news = flat_map (new_of olds) news

-- the same of rows, by their texts
abbrev pub new_row : List Line → Row → List Row
new_row olds r = if has_text olds (next_text r) then [] else r ∷ []

abbrev pub new_rows_among : List Line → List Row → List Row
new_rows_among olds news = flat_map (new_row olds) news

abbrev pub new_rows : List Row → List Row → List Row
new_rows olds news = new_rows_among (texts_of olds) news
