-- What was probably meant, as a row. (docs/FORMATS.md.)
use Rattle.std.specs.Prelude.{◌≡◌, true, codes, List, [], ◌∷◌, ◌++◌}
use Rattle.std.specs.List.{list_all}
use Rattle.rb_report.specs.Hints.{PlainHint, meant, sentence, unknown}
use Rattle.rb_view.specs.Json.{is_byte}
use Rattle.rb_view.specs.Rows.{Row, row, text}

abbrev pub hint_rows : PlainHint → List Row
hint_rows unknown = []
hint_rows (meant word) = row (codes "hint") (text (codes "did you mean \"" ++ (word ++ codes "\"?")) ∷ []) ∷ []
hint_rows (sentence said) = row (codes "hint") (text said ∷ []) ∷ []

-- what it says is bytes
abbrev pub IsOfBytes : PlainHint → Type 0
IsOfBytes unknown = Unit {0}
IsOfBytes (meant word) = list_all is_byte word ≡ true
IsOfBytes (sentence said) = list_all is_byte said ≡ true
