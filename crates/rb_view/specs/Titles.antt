-- The titles of pictures. (This project's.)
use Rattle.std.specs.Prelude.{ℕ, Bool, ◌&&◌, nat_le, codes, decimal, List, [], ◌++◌, Option, Some, None}

-- printable ASCII
abbrev pub is_printable : ℕ → Bool
is_printable b = nat_le 32 b && nat_le b 126

-- what a title says of the line from which the picture continues
abbrev pub from_text : Option ℕ → List ℕ
from_text None = []
from_text (Some line) = codes ", from line " ++ decimal line

-- what it says of the line up to which it goes
abbrev pub until_text : Option ℕ → List ℕ
until_text None = []
until_text (Some line) = codes ", up to line " ++ decimal line

-- of a script with a name of printable ASCII
abbrev pub title_text : List ℕ → Option ℕ → Option ℕ → List ℕ
title_text name from until = name ++ (from_text from ++ until_text until)
