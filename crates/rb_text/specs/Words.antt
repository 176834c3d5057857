-- The words of a line, separated by blanks. (This project's.)
use Rattle.std.specs.Prelude.{if◌then◌else◌, List, [], ◌∷◌}
use Rattle.rb_script.specs.Lines.{Line}
use Rattle.rb_script.specs.Marks.{is_space}
use Rattle.rb_script.specs.Directive.{in_piece, without_empty}

-- the line split at each blank, with empty parts
unfoldable pub parts : Line → List Line
parts [] = [] ∷ []
parts (b ∷ line) = if is_space b then [] ∷ parts line else in_piece b (parts line)

unfoldable pub words : Line → List Line
words line = without_empty (parts line)
