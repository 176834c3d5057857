-- Points of a script at which a cluster is kept: ascending lists of numbers. (This project's.)
use Rattle.std.specs.Prelude.{◌≡◌, ℕ, zero, suc, ◌+◌, ◌-◌, ◌*◌, ◌/◌, ◌<◌, ◌≤◌, max, nat_le, List, [], ◌∷◌, ◌++◌, if◌then◌else◌}

-- the greatest of the points that is at most q
abbrev pub last_up_to : ℕ → List ℕ → ℕ
last_up_to q [] = 0
last_up_to q (p ∷ ps) = if nat_le p q then max p (last_up_to q ps) else last_up_to q ps

-- from + K, from + 2 * K, .., as many as j
abbrev pub every : ℕ → ℕ → ℕ → List ℕ
every K from zero = []
every K from (suc j) = every K from j ++ (from + suc j * K) ∷ []

-- p and the points after it after thinning, if `kept` was kept last
abbrev pub thin_after : ℕ → ℕ → ℕ → List ℕ → List ℕ
thin_after K kept p [] = p ∷ []
thin_after K kept p (next ∷ ps) = if nat_le (next - kept) K then thin_after K kept next ps else p ∷ thin_after K p next ps

-- A point between two others is dropped if the one kept before it and the one after it are at most K apart.
abbrev pub thin : ℕ → List ℕ → List ℕ
thin K [] = []
thin K (p ∷ []) = p ∷ []
thin K (p ∷ next ∷ ps) = p ∷ thin_after K p next ps

-- ascending, from a on
abbrev pub IsRising : ℕ → List ℕ → Type 0
IsRising a [] = Unit {0}
IsRising a (p ∷ ps) = (a ≤ p) × IsRising (p + 1) ps

-- From a kept point on to the end n, no step is longer than K.
abbrev pub AreNear : ℕ → ℕ → ℕ → List ℕ → Type 0
AreNear K n before [] = (before ≤ n) × (n < before + K)
AreNear K n before (p ∷ ps) = (before < p) × (p ≤ before + K) × AreNear K n p ps

-- Two points with one between them are more than K apart: `a` and `b` come first.
abbrev pub AreSparse : ℕ → ℕ → ℕ → List ℕ → Type 0
AreSparse K a b [] = Unit {0}
AreSparse K a b (c ∷ ps) = (a + K < c) × AreSparse K b c ps

-- the same of a list that comes after `a`
abbrev pub AreSparseAfter : ℕ → ℕ → List ℕ → Type 0
AreSparseAfter K a [] = Unit {0}
AreSparseAfter K a (b ∷ ps) = AreSparse K a b ps

-- The kept points of a script of n directives: from 0 on, near, and no more than that wants.
abbrev pub AreKept : ℕ → ℕ → List ℕ → Type 0
AreKept K n [] = ⊥
AreKept K n (p ∷ ps) = (p ≡ 0) × AreNear K n p ps × AreSparseAfter K p ps

-- the kept points of a script of n directives that was just started: 0, K, 2 * K and so on, up to the end
abbrev pub start_points : ℕ → ℕ → List ℕ
start_points K n = 0 ∷ every K 0 (n / K)
