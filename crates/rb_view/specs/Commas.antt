-- Ids of a list, each after a comma. (This project's.)
use Rattle.std.specs.Prelude.{ℕ, decimal, List, ◌∷◌}

abbrev pub comma_before : ℕ → List ℕ
comma_before id = 44 ∷ decimal id
