-- What a leader sends to a follower, by its view of it (Ongaro's thesis, sections 3.5 and 5.1; etcd raft documentation, "Progress")
use Rattle.std.specs.Prelude.{ℕ, ◌-◌, Bool, true, false, ◌&&◌, List, [], ◌∷◌, Option, Some, None, if◌then◌else◌, nat_lt, ◌==◌}
use Rattle.rb_raftlog.specs.declared.entry.Entry.{Entry}
use Rattle.rb_raftlog.specs.declared.snapshot.Snapshot.{Snapshot}
use Rattle.std.specs.Result.{result_unwrap_or}
use Rattle.rb_raftlog.specs.Log.{LogValue, last, term_at, entries_after}
use Rattle.rb_tracker.specs.Configs.{state_of}
use Rattle.rb_tracker.specs.Progresses.{PlainProgress, sent, snapshotting}
use Rattle.rb_tracker.specs.Windows.{is_full}
use Rattle.rb_tracker.specs.Trackers.{place, view_at, with_view, ids_of}
use Rattle.rb_tracker.specs.declared.progress.ProgressState.{ProgressState}
use Rattle.rb_tracker.specs.declared.progress.ProgressState.TheVariants as state
use Rattle.rb_message.specs.declared.kind.MessageKind.{MessageKind}
use Rattle.rb_message.specs.declared.kind.MessageKind.TheVariants as kind
use Rattle.rb_node.specs.declared.sends.SendReason.{SendReason}
use Rattle.rb_node.specs.declared.sends.SendReason.TheVariants as mode
use Rattle.rb_node.specs.declared.sends.Sending.{Sending}
use Rattle.rb_node.specs.declared.sends.Sending.TheVariants as sending
use Rattle.rb_node.specs.Node.{PlainNode, posted}

abbrev pub is_news : SendReason → Bool
is_news mode.Tell = false
is_news mode.News = true
is_news mode.Ping = false

abbrev pub is_ping : SendReason → Bool
is_ping mode.Tell = false
is_ping mode.News = false
is_ping mode.Ping = true

abbrev pub is_replicating : ProgressState → Bool
is_replicating state.Probe = false
is_replicating state.Replicate = true
is_replicating state.Snapshot = false

-- a snapshot is in flight, or a probe has no response yet
abbrev pub takes_nothing_in : ProgressState → PlainProgress → Bool
takes_nothing_in state.Probe view = view.waiting
takes_nothing_in state.Replicate view = false
takes_nothing_in state.Snapshot view = true

abbrev pub takes_nothing : PlainProgress → Bool
takes_nothing view = takes_nothing_in view.state view

abbrev pub is_window_full : PlainProgress → Bool
is_window_full view = is_replicating view.state && is_full view.window

-- what to send, by the view: the first case that holds
abbrev pub sending_of : LogValue → PlainProgress → SendReason → Sending
sending_of log view how =
    if takes_nothing view then sending.Nothing
    else (if nat_lt (view.next - 1) log.base then sending.Snapshot
    else (if is_window_full view then (if is_ping how then sending.Empty else sending.Nothing)
    else (if nat_lt (last log) view.next && is_news how then sending.Nothing
    else sending.Entries)))

abbrev pub term_or_0 : LogValue → ℕ → ℕ
term_or_0 log i = result_unwrap_or (term_at log i) 0

-- an append of these entries, the first of which goes to index next
abbrev pub append_of : PlainNode → ℕ → List Entry → MessageKind
append_of n next entries =
    kind.Append (record { prev_term = term_or_0 n.log (next - 1); prev = next - 1; commit = n.commit; entries = entries })

-- a snapshot of the applied state
abbrev pub snapshot_of : PlainNode → Snapshot
snapshot_of n = record {
  index = n.applied;
  term = term_or_0 n.log n.applied;
  content = n.content;
  config = state_of n.tracker.config;
}

abbrev pub with_view_at : PlainNode → ℕ → PlainProgress → PlainNode
with_view_at n i view = record n { tracker = with_view n.tracker i view }

-- a snapshot, to the node with the view at place i
abbrev pub snapshot_to : Option PlainProgress → PlainNode → ℕ → ℕ → PlainNode
snapshot_to None n i to = n
snapshot_to (Some view) n i to = with_view_at (posted n to (kind.Snapshot (snapshot_of n))) i (snapshotting view n.applied)

-- an append without entries, to get a response
abbrev pub empty_to : Option PlainProgress → PlainNode → ℕ → PlainNode
empty_to None n to = n
empty_to (Some view) n to = posted n to (append_of n view.next [])

-- an append with all entries that are not sent yet
abbrev pub entries_to : Option PlainProgress → PlainNode → ℕ → ℕ → PlainNode
entries_to None n i to = n
entries_to (Some view) n i to =
    with_view_at (posted n to (append_of n view.next (entries_after n.log (view.next - 1)))) i (sent view (last n.log))

abbrev pub sends_by : Sending → PlainNode → ℕ → ℕ → PlainNode
sends_by sending.Nothing n i to = n
sends_by sending.Snapshot n i to = snapshot_to (view_at n.tracker.views i) n i to
sends_by sending.Empty n i to = empty_to (view_at n.tracker.views i) n to
sends_by sending.Entries n i to = entries_to (view_at n.tracker.views i) n i to

abbrev pub sends_with : Option PlainProgress → PlainNode → ℕ → ℕ → SendReason → PlainNode
sends_with None n i to how = n
sends_with (Some view) n i to how = sends_by (sending_of n.log view how) n i to

abbrev pub sends_at : Option ℕ → PlainNode → ℕ → SendReason → PlainNode
sends_at None n to how = n
sends_at (Some i) n to how = sends_with (view_at n.tracker.views i) n i to how

-- sends a node what its view asks for; sends nothing to itself or to a node without a view
unfoldable pub sends : PlainNode → ℕ → SendReason → PlainNode
sends n to how = if to == n.id then n else sends_at (place n.tracker.views to) n to how

abbrev pub sent_to_each : PlainNode → List ℕ → PlainNode
sent_to_each n [] = n
sent_to_each n (id ∷ ids) = sent_to_each (sends n id mode.Tell) ids

-- every other node gets an append, as its view asks for, by ascending id
unfoldable pub append_broadcast : PlainNode → PlainNode
append_broadcast n = sent_to_each n (ids_of n.tracker.views)
