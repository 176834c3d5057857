-- Sets of ids, as ascending lists
use Rattle.std.specs.Prelude.{ℕ, ◌+◌, ◌<◌, Bool, true, false, not, List, [], ◌∷◌, if◌then◌else◌, nat_lt, ◌==◌, filter}

abbrev pub has : List ℕ → ℕ → Bool
has [] id = false
has (x ∷ xs) id = if x == id then true else has xs id

-- with one more id
abbrev pub with_id : List ℕ → ℕ → List ℕ
with_id [] id = id ∷ []
with_id (x ∷ xs) id = if nat_lt x id then x ∷ with_id xs id else (if x == id then x ∷ xs else id ∷ x ∷ xs)

-- without one id
abbrev pub without : List ℕ → ℕ → List ℕ
without ids id = filter (λ x. not (x == id)) ids

-- the number of lower ids
abbrev pub rank : List ℕ → ℕ → ℕ
rank [] id = 0
rank (x ∷ xs) id = if nat_lt x id then rank xs id + 1 else 0

-- with the ids of a list
abbrev pub union : List ℕ → List ℕ → List ℕ
union ids [] = ids
union ids (x ∷ xs) = union (with_id ids x) xs

-- the ids of a list, in whatever order it has them
abbrev pub set_of : List ℕ → List ℕ
set_of ids = union [] ids

-- all numbers of a list are above one
abbrev pub AreAbove : ℕ → List ℕ → Type 0
AreAbove low [] = Unit {0}
AreAbove low (x ∷ xs) = (low < x) × AreAbove low xs

-- all numbers of a list are below one
abbrev pub AreBelow : ℕ → List ℕ → Type 0
AreBelow high [] = Unit {0}
AreBelow high (x ∷ xs) = (x < high) × AreBelow high xs

-- each number is below all that follow it
abbrev pub IsAscending : List ℕ → Type 0
IsAscending [] = Unit {0}
IsAscending (x ∷ xs) = AreAbove x xs × IsAscending xs
