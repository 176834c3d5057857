-- Where a search for a line parts the heads.
use Rattle.std.proofs.Common.{◌≡◌, ℕ, List, true, false}
use lib.Dec.{leb}
use Rattle.std.specs.List.Sorted.{IsPartitionPoint}
use Rattle.std.proofs.lemmas.Bool.{leb-true, leb-false}
use Rattle.rb_check.specs.Place.{ArePartedAt}

pub parted_at : (heads : List ℕ) (line place : ℕ) → IsPartitionPoint (λ head. leb head line ≡ true) (λ head. leb head line ≡ false) heads place → ArePartedAt heads line place
parted_at heads line place point = (λ k d low high. leb-true _ _ (point.0 k d low high), λ k d low high. leb-false _ _ (point.1 k d low high))
