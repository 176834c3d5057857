-- Lines in one buffer: each with its LF, and where each ends. (This project's.)
use Rattle.std.specs.Prelude.{◌≡◌, ◌≤◌, ◌<◌, ◌^◌, ℕ, ◌+◌, ◌-◌, zero, suc, List, [], ◌∷◌, length, take, drop, map, slice_index}
use Rattle.rb_script.specs.Lines.{Line, text_of}

-- where the lines end, the first of which begins here
unfoldable pub ends_of : ℕ → List Line → List ℕ
ends_of from [] = []
ends_of from (line ∷ ls) = (from + length line + 1) ∷ ends_of (from + length line + 1) ls

-- ends as they are counted from where the first line begins
abbrev pub from_start : ℕ → List ℕ → List ℕ
from_start start ends = map (λ end. end - start) ends

-- the lines that end so, the first of which begins here
unfoldable pub parted : ℕ → List ℕ → List ℕ → List Line
parted from [] text = []
parted from (end ∷ ends) text = take (end - from - 1) (drop from text) ∷ parted end ends text

-- where line i begins
abbrev pub line_start : ℕ → List ℕ → ℕ → ℕ
line_start from ends zero = from
line_start from ends (suc i) = slice_index ends i

-- the buffer is the text of its lines, and the ends are theirs
pub record IsFlat (ends text : List ℕ) : Type 0 where
  pub text_is : text ≡ text_of (parted 0 ends text)
  pub ends_are : ends ≡ ends_of 0 (parted 0 ends text)

-- the lines from one position up to another
abbrev pub between : ℕ → ℕ → List Line → List Line
between from to ls = take (to - from) (drop from ls)

-- a part is within the lines
abbrev pub IsWithin : ℕ → ℕ → List Line → Type 0
IsWithin from to ls = (from ≤ to) × (to ≤ length ls) × (to < 2 ^ 64)
