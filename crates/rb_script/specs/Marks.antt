-- The kinds of lines in a script. (This project's profile of the datadriven format.)
use Rattle.std.specs.Prelude.{ℕ, Bool, true, false, ◌==◌, ◌&&◌, ◌||◌, not, if◌then◌else◌, [], ◌∷◌, take, drop}
use Rattle.std.specs.List.{list_all}
use Rattle.std.specs.Str.{bytes_eq}
use Rattle.rb_script.specs.declared.marks.LineKind.{LineKind}
use Rattle.rb_script.specs.declared.marks.LineKind.TheVariants.{Lead, Input, Continued}
use Rattle.rb_script.specs.Bytes.{tab, space, number_sign, hyphen, backslash}
use Rattle.rb_script.specs.Lines.{Line}

-- a space or a tab
abbrev pub is_space : ℕ → Bool
is_space b = b == space || b == tab

abbrev pub is_blank : Line → Bool
is_blank line = list_all is_space line

unfoldable pub trim_blanks : Line → Line
trim_blanks [] = []
trim_blanks (b ∷ line) = if is_space b then trim_blanks line else b ∷ line

abbrev pub is_empty_or_comment : Line → Bool
is_empty_or_comment [] = true
is_empty_or_comment (b ∷ line) = b == number_sign

unfoldable pub is_lead : Line → Bool
is_lead line = is_empty_or_comment (trim_blanks line)

abbrev pub begins_comment : Line → Bool
begins_comment [] = false
begins_comment (b ∷ line) = b == number_sign

unfoldable pub is_comment : Line → Bool
is_comment line = begins_comment (trim_blanks line)

-- the line ----
abbrev pub rule : Line
rule = hyphen ∷ hyphen ∷ hyphen ∷ hyphen ∷ []

unfoldable pub is_rule : Line → Bool
is_rule line = bytes_eq line rule

-- the line ----, blanks around it allowed
unfoldable pub is_separator : Line → Bool
is_separator line = is_rule (take 4 (trim_blanks line)) && is_blank (drop 4 (trim_blanks line))

-- the last byte that isn't blank is a backslash
unfoldable pub continues : Line → Bool
continues [] = false
continues (b ∷ line) = if is_blank line then b == backslash else continues line

-- the lines of an input, and those of a plain expectation
abbrev pub is_input : Line → Bool
is_input line = not (is_separator line)

abbrev pub is_plain : Line → Bool
is_plain line = not (is_blank line)

-- the lines of a run
abbrev pub in_run : LineKind → Line → Bool
in_run Lead line = is_lead line
in_run Input line = is_input line
in_run Continued line = continues line
