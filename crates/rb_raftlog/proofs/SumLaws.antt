-- Laws of sums of bytes.
use Rattle.std.proofs.Common.{◌≡◌, ℕ, List, [], ◌∷◌, ◌++◌, refl, ap, sym, ◌∙◌}
use Rattle.rb_raftlog.specs.Content.{sum_with, sum_from, content_sum}

-- the sum goes on where it stopped
sum_append : (sum : ℕ) (xs ys : List ℕ) → sum_from sum (xs ++ ys) ≡ sum_from (sum_from sum xs) ys
sum_append sum [] ys = refl
sum_append sum (x ∷ xs) ys = sum_append (sum_with sum x) xs ys

-- a content has grown
pub sum_grown : (old new bytes : List ℕ) (sum : ℕ) → sum ≡ content_sum old → new ≡ old ++ bytes → sum_from sum bytes ≡ content_sum new
sum_grown old new bytes sum is grown =
    ap (λ (s : ℕ). sum_from s bytes) is ∙ sym (sum_append 0 old bytes) ∙ sym (ap content_sum grown)
