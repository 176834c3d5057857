-- A content in pieces, and the rest after them.
use Rattle.std.specs.Prelude.{◌≡◌, ℕ, ◌+◌, ◌<◌, ◌≤◌, List, [], length, slice_index_or}
use Rattle.rb_raftlog.specs.declared.limits.TheConstants.{PIECE, END}

-- where equal contents are cut: at the same places
pub record IsCut (pieces : List (List ℕ)) (rest : List ℕ) : Type 0 where
  pub whole : (k : ℕ) → k < length pieces → length (slice_index_or pieces k []) ≡ PIECE
  -- no further piece can be cut off
  pub short : length rest < PIECE + END
  -- the rest has at least as many bytes as are shown
  pub ended : 0 < length pieces → END ≤ length rest
