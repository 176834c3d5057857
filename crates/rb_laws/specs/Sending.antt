-- What a leader sends to a member (Ongaro's thesis, sections 3.5 and 5.1; etcd raft documentation, "Progress")
use Rattle.std.specs.Prelude.{ℕ, ◌≡◌, ◌+◌, ◌⊎◌, false, Some}
use Rattle.rb_raftlog.specs.Log.{last}
use Rattle.rb_tracker.specs.Progresses.{PlainProgress}
use Rattle.rb_tracker.specs.Trackers.{place, view_at}
use Rattle.rb_tracker.specs.Windows.{is_full}
use Rattle.rb_tracker.specs.declared.progress.ProgressState.TheVariants.{Probe, Replicate}
use Rattle.rb_node.specs.Node.{PlainNode}

-- no probe waits for its answer, and no window is full
abbrev pub IsFree : PlainProgress → Type 0
IsFree view = ((view.state ≡ Probe) × (view.waiting ≡ false)) ⊎ ((view.state ≡ Replicate) × (is_full view.window ≡ false))

-- a leader may send to another member
pub record MaySendTo (n : PlainNode) (to : ℕ) (view : PlainProgress) : Type 0 where
  pub at : ℕ
  pub placed : place n.tracker.views to ≡ Some at
  pub is : view_at n.tracker.views at ≡ Some view
  pub another : to ≡ n.id → ⊥
  pub free : IsFree view

-- a new leader's view of another member: it may hold nothing, and is probed from the end of the leader's log on
pub record IsFirstView (n : PlainNode) (view : PlainProgress) : Type 0 where
  pub free : IsFree view
  pub matched : view.matched ≡ 0
  pub next : view.next ≡ last n.log + 1
