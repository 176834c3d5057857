-- Runs: what is at the front of a list and passes a test, and what follows; and the lines of a head. (This project's profile
-- of the datadriven format.)
use Rattle.std.specs.Prelude.{Bool, if◌then◌else◌, List, [], ◌∷◌}
use Rattle.rb_script.specs.Lines.{Line}
use Rattle.rb_script.specs.Marks.{continues}

-- the items before the first that doesn't pass, and those from it on
unfoldable pub while_of : {X : Type 0} → (X → Bool) → List X → List X
while_of p [] = []
while_of p (x ∷ xs) = if p x then x ∷ while_of p xs else []

unfoldable pub after_while : {X : Type 0} → (X → Bool) → List X → List X
after_while p [] = []
after_while p (x ∷ xs) = if p x then after_while p xs else x ∷ xs

-- the first line and those that continue it, and the rest
unfoldable pub head_of : List Line → List Line
head_of [] = []
head_of (line ∷ ls) = if continues line then line ∷ head_of ls else line ∷ []

unfoldable pub after_head : List Line → List Line
after_head [] = []
after_head (line ∷ ls) = if continues line then after_head ls else ls
