-- Which of a script's heads are at a line or above it. (This project's.)
use Rattle.std.specs.Prelude.{ℕ, ◌<◌, ◌≤◌, List}
use Rattle.std.specs.List.Sorted.{IsPartitionPoint}

-- the first n heads are at the line or above it, and all others are below it
abbrev pub ArePartedAt : List ℕ → ℕ → ℕ → Type 0
ArePartedAt heads line n = IsPartitionPoint (λ head. head ≤ line) (λ head. line < head) heads n
