-- The last index that a quorum holds (Ongaro's thesis, sections 3.5 and 3.6.2)
use Rattle.std.specs.Prelude.{ℕ, zero, suc, ◌≡◌, ◌≤◌, Bool, ◌&&◌, List, [], ◌∷◌, Option, Some, None, length, if◌then◌else◌, nat_le, ◌==◌, max}
use Rattle.rb_tracker.specs.Quorum.{is_majority, is_quorum}
use Rattle.rb_tracker.specs.Trackers.{PlainTracker, view_of}
use Rattle.rb_tracker.specs.Progresses.{PlainProgress}

abbrev pub match_in : Option PlainProgress → ℕ
match_in None = 0
match_in (Some view) = view.matched

-- the last index that an id is known to hold: 0 without a view
abbrev pub match_of : List (ℕ × PlainProgress) → ℕ → ℕ
match_of views id = match_in (view_of views id)

-- an id is known to hold an index
abbrev pub holds : List (ℕ × PlainProgress) → ℕ → ℕ → Bool
holds views n id = nat_le n (match_of views id)

-- a quorum holds an index
abbrev pub is_held : PlainTracker → ℕ → Bool
is_held t n = is_quorum t.config (λ id. holds t.views n id)

-- the highest index of any view
unfoldable pub highest : List (ℕ × PlainProgress) → ℕ
highest [] = 0
highest (e ∷ es) = max e.1.matched (highest es)

-- the greatest number up to one that passes: 0 if none
unfoldable pub greatest : ℕ → (ℕ → Bool) → ℕ
greatest zero passes = 0
greatest (suc n) passes = if passes (suc n) then suc n else greatest n passes

-- the greatest index that a quorum holds: 0 where nobody votes
unfoldable pub commit_of : PlainTracker → ℕ
commit_of t =
    if length t.config.incoming == 0 && length t.config.outgoing == 0 then 0
    else greatest (highest t.views) (λ n. is_held t n)

-- the greatest index that a majority of the voters holds
pub record IsHeldByMajority (views : List (ℕ × PlainProgress)) (voters : List ℕ) (n : ℕ) : Type 0 where
  pub decides : (k : ℕ) → is_majority voters (λ id. holds views k id) ≡ nat_le k n
  pub within : n ≤ highest views
