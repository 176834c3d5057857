-- Progress: what a leader knows of a follower's log (Ongaro's thesis, section 3.5; etcd raft documentation, "Progress")
use Rattle.std.specs.Prelude.{ℕ, ◌≡◌, ◌<◌, ◌≤◌, length, ◌+◌, ◌-◌, ◌^◌, max, min, nat_le, nat_lt, Bool, true, false, not, ◌&&◌, ◌||◌, List, [], ◌==◌, if◌then◌else◌}
use Rattle.rb_tracker.specs.Sets.{AreBelow}
use Rattle.rb_tracker.specs.Windows.{PlainWindow, empty_window, is_full, emptied, pushed, freed}
use Rattle.rb_tracker.specs.declared.progress.ProgressState.{ProgressState}
use Rattle.rb_tracker.specs.declared.progress.ProgressState.TheVariants.{Probe, Replicate, Snapshot}

pub record PlainProgress : Type 0 where
  pub state : ProgressState
  -- the last index that the follower is known to hold
  pub matched : ℕ
  -- the next index to send
  pub next : ℕ
  -- a probe is in flight
  pub waiting : Bool
  -- the index of a snapshot in flight, or 0
  pub pending : ℕ
  -- the leader heard from it since its last quorum check
  pub active : Bool
  pub window : PlainWindow

-- a view of a follower whose log is unknown
abbrev pub probing : ℕ → ℕ → Bool → PlainProgress
probing capacity next active = record { state = Probe; matched = 0; next = next; waiting = false; pending = 0; active = active; window = empty_window capacity }

-- a leader's view of itself
abbrev pub own_view : ℕ → ℕ → ℕ → PlainProgress
own_view capacity matched next = record (probing capacity next true) { state = Replicate; matched = matched }

-- sending is paused
abbrev pub paused_in : ProgressState → PlainProgress → Bool
paused_in Probe p = p.waiting
paused_in Replicate p = is_full p.window
paused_in Snapshot p = true

abbrev pub paused : PlainProgress → Bool
paused p = paused_in p.state p

abbrev pub with_active : PlainProgress → Bool → PlainProgress
with_active p active = record p { active = active }

abbrev pub resumed : PlainProgress → PlainProgress
resumed p = record p { waiting = false }

-- the log is probed from the last known index
abbrev pub probed : PlainProgress → PlainProgress
probed p = record p { state = Probe; next = p.matched + 1; waiting = false; window = emptied p.window }

-- a snapshot up to an index is in flight
abbrev pub snapshotting : PlainProgress → ℕ → PlainProgress
snapshotting p index = record p { state = Snapshot; pending = index; next = index + 1; window = emptied p.window }

-- appends are sent without waiting for responses
abbrev pub replicating : PlainProgress → PlainProgress
replicating p = record p { state = Replicate; next = p.matched + 1; waiting = false; pending = 0; window = emptied p.window }

abbrev pub sent_up_to : PlainProgress → ℕ → PlainProgress
sent_up_to p last = record p { window = pushed p.window last; next = last + 1 }

-- an append of all entries up to the last index was sent: a probe waits for its response, a new append joins the window
abbrev pub sent_in : ProgressState → PlainProgress → ℕ → PlainProgress
sent_in Probe p last = record p { waiting = true }
sent_in Replicate p last = if nat_le p.next last && not (is_full p.window) then sent_up_to p last else p
sent_in Snapshot p last = p

abbrev pub sent : PlainProgress → ℕ → PlainProgress
sent p last = sent_in p.state p last

-- the follower holds the log up to an index
abbrev pub matching : PlainProgress → ℕ → PlainProgress
matching p index = record p { matched = index; next = max p.next (index + 1) }

abbrev pub acked_in : ProgressState → PlainProgress → ℕ → PlainProgress
acked_in Probe p index = replicating (matching p index)
acked_in Replicate p index = record (matching p index) { window = freed p.window index }
acked_in Snapshot p index = if nat_le p.pending index then replicating (matching p index) else matching p index

abbrev pub is_probing : ProgressState → Bool
is_probing Probe = true
is_probing Replicate = false
is_probing Snapshot = false

-- an accepted index tells something new: it is past the last known index, or a probe found where the logs agree
abbrev pub is_news : PlainProgress → ℕ → Bool
is_news p index = nat_lt p.matched index || (p.matched == index && is_probing p.state)

-- an accepted index is known
abbrev pub acked : PlainProgress → ℕ → PlainProgress
acked p index = acked_in p.state p index

-- an accepted index that tells nothing new only frees the window
abbrev pub freed_in : ProgressState → PlainProgress → ℕ → PlainProgress
freed_in Probe p index = p
freed_in Replicate p index = record p { window = freed p.window index }
freed_in Snapshot p index = p

abbrev pub freed_through : PlainProgress → ℕ → PlainProgress
freed_through p index = freed_in p.state p index

-- a refusal of the entries after an index is current, and not stale
abbrev pub is_current_reject_in : ProgressState → PlainProgress → ℕ → Bool
is_current_reject_in Probe p index = index == p.next - 1
is_current_reject_in Replicate p index = nat_lt p.matched index
is_current_reject_in Snapshot p index = false

abbrev pub is_current_reject : PlainProgress → ℕ → Bool
is_current_reject p index = is_current_reject_in p.state p index

-- the next probe, after a refusal with a hint
abbrev pub refused_in : ProgressState → PlainProgress → ℕ → ℕ → PlainProgress
refused_in Probe p index hint = record p { next = max (p.matched + 1) (min index (hint + 1)); waiting = false }
refused_in Replicate p index hint = probed p
refused_in Snapshot p index hint = p

abbrev pub refused : PlainProgress → ℕ → ℕ → PlainProgress
refused p index hint = refused_in p.state p index hint

-- a window in use is one of appends that were sent
abbrev pub IsInUse : ProgressState → List ℕ → ℕ → Type 0
IsInUse Probe in_flight next = in_flight ≡ []
IsInUse Replicate in_flight next = AreBelow next in_flight
IsInUse Snapshot in_flight next = in_flight ≡ []

-- the invariant of a view
pub record IsProgress (state : ProgressState) (matched next : ℕ) (window : PlainWindow) : Type 0 where
  pub matched_fits : matched + 1 < 2 ^ 41
  pub next_fits : next < 2 ^ 41
  pub within : length window.in_flight ≤ window.capacity
  pub in_use : IsInUse state window.in_flight next
