-- The head of a block as one text. (This project's profile of the datadriven format: a backslash at the end of a
-- line asks for the next.)
use Rattle.std.specs.Prelude.{ℕ, Bool, true, false, if◌then◌else◌, List, [], ◌∷◌, ◌++◌}
use Rattle.rb_script.specs.Bytes.{space}
use Rattle.rb_script.specs.Lines.{Line}
use Rattle.rb_script.specs.Marks.{is_blank, continues}

-- a line without its last byte that isn't blank, and the rest
unfoldable pub body : Line → Line
body [] = []
body (b ∷ line) = if is_blank line then [] else b ∷ body line

-- The lines of a head, joined by one blank each. A line that asks for a next one if there is none takes an empty one.
unfoldable pub joined : List Line → List ℕ
joined [] = []
joined (line ∷ ls) = if continues line then body line ++ space ∷ joined ls else line

-- the rest of the joined head after a line's part of it
abbrev pub behind_piece : Bool → List Line → List ℕ
behind_piece true ls = space ∷ joined ls
behind_piece false ls = []
