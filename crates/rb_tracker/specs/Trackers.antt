-- Trackers: a configuration, and a leader's views of the members
use Rattle.std.specs.Prelude.{ℕ, Bool, nat_eq, is_some, insert, map, List, [], Option, position, slice_get, ◌==◌}
use Rattle.std.specs.Map.{keys_of, remove_entry, lookup}
use Rattle.indexmap.specs.Layout.{set_value_at}
use Rattle.rb_tracker.specs.declared.config.Config.{Config}
use Rattle.rb_tracker.specs.Sets.{rank, set_of, IsAscending}
use Rattle.rb_tracker.specs.Progresses.{PlainProgress}

pub record PlainTracker : Type 0 where
  pub config : Config
  -- each with the member's id, ascending
  pub views : List (ℕ × PlainProgress)

abbrev pub no_views : Config → PlainTracker
no_views c = record { config = c; views = [] }

abbrev pub cleared : PlainTracker → PlainTracker
cleared t = record t { views = [] }

abbrev pub configured : PlainTracker → Config → PlainTracker
configured t c = record t { config = c }

-- the place of an id's view
abbrev pub place : List (ℕ × PlainProgress) → ℕ → Option ℕ
place views id = position (λ k. id == k) (keys_of views)

abbrev pub view_at : List (ℕ × PlainProgress) → ℕ → Option PlainProgress
view_at views i = slice_get (map (λ (e : ℕ × PlainProgress). e.1) views) i

-- with another view at a place
abbrev pub with_view : PlainTracker → ℕ → PlainProgress → PlainTracker
with_view t i view = record t { views = set_value_at t.views i view }

abbrev pub ids_of : List (ℕ × PlainProgress) → List ℕ
ids_of views = set_of (keys_of views)

abbrev pub view_of : List (ℕ × PlainProgress) → ℕ → Option PlainProgress
view_of views id = lookup (nat_eq id) views

abbrev pub has_view : List (ℕ × PlainProgress) → ℕ → Bool
has_view views id = is_some (view_of views id)

-- with one more view
abbrev pub with_new : PlainTracker → ℕ → PlainProgress → PlainTracker
with_new t id view = record t { views = insert t.views (rank (keys_of t.views) id) (id, view) }

abbrev pub removed : PlainTracker → ℕ → PlainTracker
removed t id = record t { views = remove_entry (nat_eq id) t.views }

-- each view's id is above that of the view before
abbrev pub AreInOrder : List (ℕ × PlainProgress) → Type 0
AreInOrder views = IsAscending (keys_of views)
