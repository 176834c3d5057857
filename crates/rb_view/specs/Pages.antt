-- The text of a script's steps. (docs/FORMATS.md.)
use Rattle.std.specs.Prelude.{ℕ, codes, List, [], ◌∷◌, ◌++◌}
use Rattle.std.specs.Borrow.{Bor}
use Rattle.std.specs.List.{flat_map}
use Rattle.rb_script.specs.Lines.{Line}
use Rattle.rb_script.specs.Script.{PlainScript}
use Rattle.rb_view.specs.declared.rows.row.RowPlace.TheVariants.{First}
use Rattle.rb_view.specs.Kept.{joined}
use Rattle.rb_view.specs.Rows.{Row, row, number, text, before, row_text}
use Rattle.rb_view.specs.declared.steps.page.TheConstants.{FORMAT}
use Rattle.rb_view.specs.Steps.{steps_texts}

-- the format of the rows, and the script's name
abbrev pub first_row : List ℕ → Row
first_row name = row (codes "raftbench") (number FORMAT ∷ text name ∷ [])

-- the rows of these texts after the first
abbrev pub rows_joined : List ℕ → List Line → List ℕ
rows_joined name texts = (before First ++ row_text (first_row name)) ++ (joined texts ++ codes "]\n")

-- the text of a script's steps
abbrev pub steps_text : List ℕ → List ℕ → List ℕ → PlainScript → List ℕ
steps_text name bytes heads s = rows_joined name (steps_texts bytes heads s)

-- ---- a page

-- parts of a text, one after another
abbrev pub parts_joined : List (Bor (List ℕ)) → List ℕ
parts_joined parts = flat_map (λ (part : Bor (List ℕ)). part.now) parts

-- the rows between what is before them and what is after
abbrev pub page_joined : List (Bor (List ℕ)) → List (Bor (List ℕ)) → List ℕ → List Line → List ℕ
page_joined front back name texts = parts_joined front ++ (rows_joined name texts ++ parts_joined back)
