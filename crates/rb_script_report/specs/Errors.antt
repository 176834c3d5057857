-- Outputs that are errors, and whether the script says that they are expected. (This project's.)
use Rattle.std.specs.Prelude.{ℕ, zero, suc, ◌+◌, ◌-◌, min, Bool, false, ◌&&◌, ◌||◌, not, if◌then◌else◌, List, [], ◌∷◌, length, take, codes, slice_index_or}
use Rattle.std.specs.Str.{bytes_eq}
use Rattle.rb_script.specs.Lines.{Line}
use Rattle.rb_script.specs.Marks.{trim_blanks, is_lead}

abbrev pub begins_error : Line → Bool
begins_error line = bytes_eq (take 7 line) (codes "error: ")

abbrev pub first_line : List Line → Line
first_line [] = []
first_line (line ∷ ls) = line

-- an output that is an error
abbrev pub is_error : List Line → Bool
is_error output = begins_error (first_line output)

-- the comment that says that an error is expected, blanks before it allowed
abbrev pub is_mark : Line → Bool
is_mark line = bytes_eq (trim_blanks line) (codes "# expects an error")

-- whether it is one of the comments and empty lines at the end of the first n lines
abbrev pub marked : List Line → ℕ → Bool
marked ls zero = false
marked ls (suc n) = is_lead (slice_index_or ls n []) && (is_mark (slice_index_or ls n []) || marked ls n)

-- whether it is above the head that begins on the line, which counts from 1
abbrev pub says_error : List Line → ℕ → Bool
says_error ls line = marked ls (min (line - 1) (length ls))

-- an error that isn't said to be expected
abbrev pub is_unexpected : List Line → ℕ → List Line → Bool
is_unexpected ls line output = is_error output && not (says_error ls line)

-- how many there are, of heads that begin on these lines
abbrev pub error_count : List Line → List ℕ → List (List Line) → ℕ
error_count ls [] os = 0
error_count ls (line ∷ heads) [] = 0
error_count ls (line ∷ heads) (output ∷ os) = (if is_unexpected ls line output then 1 else 0) + error_count ls heads os
