-- Messages in pages, and a tail after them.
use Rattle.std.specs.Prelude.{◌≡◌, ℕ, ◌<◌, ◌≤◌, List, [], length, slice_index_or}
use Rattle.rb_message.specs.declared.limits.TheConstants.{PAGE, MAX_PAGES}

-- where equal lists are cut: at the same places
pub record IsPaged {X : Type 0} (pages : List (List X)) (tail : List X) : Type 0 where
  pub full : (k : ℕ) → k < length pages → length (slice_index_or pages k []) ≡ PAGE
  -- no further page is full
  pub short : length tail < PAGE
  -- what counts the messages holds their number
  pub few : length pages ≤ MAX_PAGES
