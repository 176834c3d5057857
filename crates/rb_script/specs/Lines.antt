-- Bytes as lines. (This project's profile of the datadriven format: LF ends a line, and carriage returns
-- directly before it belong to the end.)
use Rattle.std.specs.Prelude.{ℕ, ◌==◌, if◌then◌else◌, List, [], ◌∷◌, ◌++◌, map}
use Rattle.std.specs.List.{flat_map}
use Rattle.rb_script.specs.Bytes.{line_feed, carriage_return}

abbrev pub Line : Type 0
Line = List ℕ

-- the byte before a line, unless it is a carriage return at its end
abbrev pub put_before : ℕ → Line → Line
put_before b [] = if b == carriage_return then [] else b ∷ []
put_before b (c ∷ line) = b ∷ c ∷ line

-- without the carriage returns at its end
unfoldable pub without_returns : Line → Line
without_returns [] = []
without_returns (b ∷ line) = put_before b (without_returns line)

-- the byte is in the first line
abbrev pub in_first : ℕ → List Line → List Line
in_first b [] = (b ∷ []) ∷ []
in_first b (line ∷ ls) = (b ∷ line) ∷ ls

-- cut at each LF; the part after the last LF is a line if it has bytes
unfoldable pub cut : List ℕ → List Line
cut [] = []
cut (b ∷ bytes) = if b == line_feed then [] ∷ cut bytes else in_first b (cut bytes)

unfoldable pub lines : List ℕ → List Line
lines bytes = map without_returns (cut bytes)

-- each line with its LF
abbrev pub line_text : Line → List ℕ
line_text line = line ++ line_feed ∷ []

abbrev pub text_of : List Line → List ℕ
text_of ls = flat_map line_text ls
