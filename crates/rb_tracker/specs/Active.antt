-- Whether a leader has heard from a quorum (Ongaro's thesis, section 6.2; etcd raft documentation, "CheckQuorum")
use Rattle.std.specs.Prelude.{ℕ, Bool, false, List, Option, Some, None, map, slice_get, if◌then◌else◌, ◌==◌}
use Rattle.indexmap.specs.Layout.{set_value_at}
use Rattle.rb_tracker.specs.Quorum.{is_quorum}
use Rattle.rb_tracker.specs.Trackers.{PlainTracker, view_at, view_of, with_view}
use Rattle.rb_tracker.specs.Progresses.{PlainProgress, with_active}

abbrev pub active_in : Option PlainProgress → Bool
active_in None = false
active_in (Some view) = view.active

-- an id has an active view
abbrev pub is_active : List (ℕ × PlainProgress) → ℕ → Bool
is_active views id = active_in (view_of views id)

unfoldable pub quorum_active : PlainTracker → Bool
quorum_active t = is_quorum t.config (λ id. is_active t.views id)

abbrev pub with_active_by : Option PlainProgress → PlainTracker → ℕ → Bool → PlainTracker
with_active_by None t i active = t
with_active_by (Some view) t i active = with_view t i (with_active view active)

-- with the view at a place active or not
unfoldable pub with_active_at : PlainTracker → ℕ → Bool → PlainTracker
with_active_at t i active = with_active_by (view_at t.views i) t i active

-- an inactive view, unless it is the leader's own
abbrev pub inactive_unless_own : ℕ → ℕ × PlainProgress → ℕ × PlainProgress
inactive_unless_own own e = if e.0 == own then e else (e.0, with_active e.1 false)

abbrev pub inactive_with : Option (ℕ × PlainProgress) → List (ℕ × PlainProgress) → ℕ → ℕ → List (ℕ × PlainProgress)
inactive_with None views i own = views
inactive_with (Some e) views i own = if e.0 == own then views else set_value_at views i (with_active e.1 false)

-- with the view at a place inactive, unless it is the leader's own
abbrev pub inactive_at : List (ℕ × PlainProgress) → ℕ → ℕ → List (ℕ × PlainProgress)
inactive_at views i own = inactive_with (slice_get views i) views i own

-- all views inactive, except the leader's own
unfoldable pub others_marked_inactive : PlainTracker → ℕ → PlainTracker
others_marked_inactive t own = record t { views = map (inactive_unless_own own) t.views }
