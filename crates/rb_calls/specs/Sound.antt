-- What holds of each node: the log's indexes are in order (Ongaro's thesis, figure 3.1 and section 5.1)
use Rattle.std.specs.Prelude.{◌≡◌, ℕ, ◌≤◌, ◌<◌, List, [], ◌∷◌, length}
use Rattle.std.specs.Map.{keys_of}
use Rattle.rb_tracker.specs.Configs.{is_member}
use Rattle.rb_tracker.specs.Progresses.{PlainProgress}
use Rattle.rb_tracker.specs.Sets.{has, IsAscending}
use Rattle.rb_tracker.specs.declared.config.Config.{Config}
use Rattle.rb_message.specs.declared.role.Role.{Role}
use Rattle.rb_message.specs.declared.role.Role.TheVariants.{Leader}
use Rattle.rb_raftlog.specs.Log.{LogValue, last, term_at, entry_at}
use Rattle.rb_node.specs.Node.{PlainNode}

-- What is compacted was applied; what is applied is durable and was committed; what is committed is held. No index is durable that
-- isn't held.
pub record IsOrdered (log : LogValue) (commit applied : ℕ) : Type 0 where
  pub past_base : log.base ≤ applied
  pub is_durable : applied ≤ log.durable
  pub within : log.durable ≤ last log
  pub is_committed : applied ≤ commit
  pub is_held : commit ≤ last log

abbrev pub IsSound : PlainNode → Type 0
IsSound n = IsOrdered n.log n.commit n.applied

-- A log that has gone on: what it held is there as it was, but for what was compacted, and what was durable is so.
pub record IsGrown (old new : LogValue) : Type 0 where
  pub longer : last old ≤ last new
  pub written : old.durable ≤ new.durable
  pub entries : (i : ℕ) → i ≤ last old → new.base < i → entry_at new i ≡ entry_at old i
  pub terms : (i : ℕ) → i ≤ last old → new.base ≤ i → term_at new i ≡ term_at old i

-- the same in what a question before the vote must not change
pub record HasSameVote (old new : PlainNode) : Type 0 where
  pub term : new.term ≡ old.term
  pub vote : new.vote ≡ old.vote
  pub log : new.log ≡ old.log

-- a view of a member: what it is sent next is past what it is known to hold, and no more is in flight than may be
pub record IsSoundView (view : PlainProgress) : Type 0 where
  pub ahead : view.matched < view.next
  pub within : length view.window.in_flight ≤ view.window.capacity

abbrev pub AreSoundViews : List (ℕ × PlainProgress) → Type 0
AreSoundViews [] = Unit {0}
AreSoundViews (e ∷ es) = IsSoundView e.1 × AreSoundViews es

-- only a leader has views
pub record AreViewsOf (r : Role) (views : List (ℕ × PlainProgress)) : Type 0 where
  pub only_leading : (r ≡ Leader → ⊥) → views ≡ []
  pub each : AreSoundViews views

abbrev pub HasSoundViews : PlainNode → Type 0
HasSoundViews n = AreViewsOf n.role n.tracker.views

-- whom a leader has views of: each member once, and nobody else; who doesn't lead has views of nobody
pub record AreOfMembers (r : Role) (c : Config) (ids : List ℕ) : Type 0 where
  pub only_leading : (r ≡ Leader → ⊥) → ids ≡ []
  pub in_order : IsAscending ids
  pub of_members : r ≡ Leader → (id : ℕ) → has ids id ≡ is_member c id

abbrev pub HasViewsOfMembers : PlainNode → Type 0
HasViewsOfMembers n = AreOfMembers n.role n.tracker.config (keys_of n.tracker.views)
