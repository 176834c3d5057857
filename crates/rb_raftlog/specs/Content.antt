-- The last bytes and the sum of a content.
use Rattle.std.specs.Prelude.{ℕ, ◌+◌, ◌-◌, ◌*◌, ◌%◌, ◌^◌, List, [], ◌∷◌, length, drop}
use Rattle.rb_raftlog.specs.declared.limits.TheConstants.{END, FACTOR}

-- the last bytes, or all if there are fewer
abbrev pub content_end : List ℕ → List ℕ
content_end c = drop (length c - END) c

-- ---- a sum of the bytes, in 64 bits

-- adds a byte to a sum
unfoldable pub sum_with : ℕ → ℕ → ℕ
sum_with sum byte = ((sum * FACTOR) % 2 ^ 64 + byte) % 2 ^ 64

-- adds bytes to a sum
abbrev pub sum_from : ℕ → List ℕ → ℕ
sum_from sum [] = sum
sum_from sum (b ∷ bs) = sum_from (sum_with sum b) bs

abbrev pub content_sum : List ℕ → ℕ
content_sum c = sum_from 0 c
