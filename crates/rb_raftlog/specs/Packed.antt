-- Pages of items, one after another.
use Rattle.std.specs.Prelude.{◌≡◌, ℕ, ◌+◌, ◌*◌, ◌<◌, List, length, take, min}
use Rattle.std.specs.List.{flat_map}
use Rattle.rb_raftlog.specs.declared.limits.TheConstants.{PAGE}

-- the items of the pages, in order
abbrev pub joined : {X : Type 0} → List (List X) → List X
joined ps = flat_map (λ p. p) ps

-- all pages except the last are full, and none is empty
pub record IsPacked {X : Type 0} (ps : List (List X)) : Type 0 where
  -- the first k pages have PAGE * k items, or all
  pub places : (k : ℕ) → length (joined (take k ps)) ≡ min (PAGE * k) (length (joined ps))
  -- and the last of them has some
  pub few : PAGE * length ps < length (joined ps) + PAGE
