-- The form of printed lines. (This project's: lines that can be expected without the double form.)
use Rattle.std.specs.Prelude.{ℕ, Bool, ◌&&◌, not, List}
use Rattle.std.specs.List.{list_all}
use Rattle.rb_script.specs.Marks.{is_blank, is_rule}
use Rattle.rb_texts.specs.Quoted.{is_printable}

-- printable bytes alone: no control byte, such as LF, a carriage return or 127, and none above
abbrev pub is_one_line : List ℕ → Bool
is_one_line line = list_all is_printable line

-- a line that needs only the plain form: printable, and neither blank nor ----
abbrev pub is_solid : List ℕ → Bool
is_solid line = not (is_blank line) && not (is_rule line) && is_one_line line
