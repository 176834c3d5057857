-- Windows: the appends in flight to a follower (etcd raft documentation, "MaxInflightMsgs")
use Rattle.std.specs.Prelude.{ℕ, Bool, ◌≤◌, length, List, [], ◌∷◌, ◌++◌, nat_lt, filter, ◌==◌}
use Rattle.rb_tracker.specs.Sets.{IsAscending}

-- the last index of each append in flight, and the capacity
pub record PlainWindow : Type 0 where
  pub in_flight : List ℕ
  pub capacity : ℕ

abbrev pub empty_window : ℕ → PlainWindow
empty_window capacity = record { in_flight = []; capacity = capacity }

abbrev pub is_full : PlainWindow → Bool
is_full w = length w.in_flight == w.capacity

abbrev pub emptied : PlainWindow → PlainWindow
emptied w = record w { in_flight = [] }

abbrev pub pushed : PlainWindow → ℕ → PlainWindow
pushed w index = record w { in_flight = w.in_flight ++ index ∷ [] }

-- the appends above an index stay, in order
abbrev pub freed : PlainWindow → ℕ → PlainWindow
freed w index = record w { in_flight = filter (λ i. nat_lt index i) w.in_flight }

-- the invariant of a window
pub record IsWindow (in_flight : List ℕ) (capacity : ℕ) : Type 0 where
  pub within : length in_flight ≤ capacity
  pub ascending : IsAscending in_flight
