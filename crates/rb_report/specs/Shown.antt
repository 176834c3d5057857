-- A shown line: the text before and after it, and a mark if its end would not be seen. (This project's.)
use Rattle.std.specs.Prelude.{ℕ, Bool, ◌==◌, ◌||◌, if◌then◌else◌, List, [], ◌∷◌, ◌++◌, take, codes}
use Rattle.std.specs.Str.{bytes_eq}
use Rattle.rb_script.specs.Bytes.{space}
use Rattle.rb_script.specs.Lines.{Line}
use Rattle.rb_script.specs.Marks.{is_space}
use Rattle.rb_report.specs.declared.check.colors.Colors.{Colors}
use Rattle.rb_report.specs.declared.check.colors.Colors.TheVariants.{Off, On}
use Rattle.rb_report.specs.declared.check.side.Side.{Side}
use Rattle.rb_report.specs.declared.check.side.Side.TheVariants.{Both, Expected, Output}

abbrev pub dollar_sign : ℕ
dollar_sign = 36

abbrev pub escape : ℕ
escape = 27

-- the last byte of a line, or d if it is empty
abbrev pub last_or : ℕ → Line → ℕ
last_or d [] = d
last_or d (b ∷ line) = last_or b line

-- the line in the place of folded lines begins so
abbrev pub begins_fold : Line → Bool
begins_fold line = bytes_eq (take 3 line) (codes ".. ")

-- a blank at its end, or an empty line, would not be seen; the mark itself is marked again, and so is a line that looks like a fold, so that
-- no two lines look alike
abbrev pub needs_mark : Line → Bool
needs_mark line = is_space (last_or space line) || (last_or space line == dollar_sign || begins_fold line)

abbrev pub end_mark : Line → List ℕ
end_mark line = if needs_mark line then codes "$" else []

-- a line with the mark of its end
unfoldable pub marked : Line → List ℕ
marked line = line ++ end_mark line

-- the text before a line
abbrev pub before : Colors → Side → List ℕ
before colors Both = codes "  "
before Off Expected = codes "- "
before Off Output = codes "+ "
before On Expected = escape ∷ codes "[31m- "
before On Output = escape ∷ codes "[32m+ "

-- the text after it
abbrev pub after : Colors → Side → List ℕ
after colors Both = []
after Off Expected = []
after Off Output = []
after On Expected = escape ∷ codes "[0m"
after On Output = escape ∷ codes "[0m"

abbrev pub line_shown : Colors → Side → Line → List ℕ
line_shown colors side line = before colors side ++ (line ++ (end_mark line ++ (after colors side ++ codes "\n")))

-- a text in the colour of its side: turned on before it, and off after it
abbrev pub colored : Side → List ℕ → List ℕ
colored Both text = text
colored Expected text = (escape ∷ codes "[31m") ++ (text ++ (escape ∷ codes "[0m"))
colored Output text = (escape ∷ codes "[32m") ++ (text ++ (escape ∷ codes "[0m"))
