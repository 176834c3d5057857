-- How a follower handles its leader's messages, and forwards messages to its leader (Ongaro's thesis, sections 3.5, 5.3 and 6.2)
use Rattle.std.specs.Prelude.{ℕ, ◌≤◌, true, max, min, if◌then◌else◌, nat_le, ◌==◌, List, [], ◌∷◌, ◌++◌}
use Rattle.rb_raftlog.specs.Log.{LogValue, last, term_at, is_term, appended, given_way, answer, restored}
use Rattle.rb_raftlog.specs.declared.entry.Entry.{Entry}
use Rattle.rb_raftlog.specs.declared.raft_log.Appended.{Appended}
use Rattle.rb_raftlog.specs.declared.raft_log.Appended.TheVariants.{Matched, Refused, BelowCommit}
use Rattle.rb_raftlog.specs.declared.limits.TheConstants.{MAX_INDEX}
use Rattle.rb_raftlog.specs.declared.snapshot.Snapshot.{Snapshot}
use Rattle.rb_tracker.specs.Configs.{config_of}
use Rattle.rb_tracker.specs.Trackers.{configured}
use Rattle.rb_message.specs.Appends.{PlainAppend}
use Rattle.rb_message.specs.declared.event.Event.{Event}
use Rattle.rb_message.specs.declared.event.EventKind.TheVariants as event
use Rattle.rb_message.specs.Events.{event_at}
use Rattle.rb_message.specs.declared.event.WhyIgnored.TheVariants as why
use Rattle.rb_message.specs.declared.kind.MessageKind.{MessageKind}
use Rattle.rb_message.specs.declared.kind.MessageKind.TheVariants as kind
use Rattle.rb_message.specs.declared.message.Message.{Message}
use Rattle.rb_node.specs.Node.{PlainNode, NodeStep, with_event, with_node, ignored, posted, posted_at, answered_with, with_elapsed}

-- the sender is the leader, and the election timer starts again
abbrev pub leader_contact_recorded : PlainNode → ℕ → PlainNode
leader_contact_recorded n from = record (with_elapsed n 0) { lead = from }

-- the commit never falls
abbrev pub commits_to : PlainNode → ℕ → PlainNode
commits_to n i = record n { commit = max n.commit i }

-- a heartbeat: the commit rises to the leader's, up to the last index; the response goes out with the next ready
abbrev pub heartbeat_handled : PlainNode → ℕ → ℕ → PlainNode
heartbeat_handled n from commit = posted (commits_to (leader_contact_recorded n from) (min commit (last n.log))) from kind.HeartbeatResponse

-- a matched index is within the limits
abbrev pub HasLimits : Appended → Type 0
HasLimits (Matched i) = i ≤ MAX_INDEX
HasLimits (Refused i) = Unit {0}
HasLimits (BelowCommit i) = Unit {0}

-- an append, by the log's answer
abbrev pub after_log : Appended → NodeStep → ℕ → PlainAppend → NodeStep
after_log (Matched i) t from append =
    with_node t (answered_with (commits_to t.node (min append.commit i)) from t.node.term (kind.AppendResponse i))
after_log (Refused hint) t from append = with_node t (answered_with t.node from t.node.term (kind.AppendRefusal append.prev hint))
after_log (BelowCommit i) t from append = with_event t (event_at t.node.id (event.Conflict i t.node.commit))

abbrev pub with_appended : PlainNode → ℕ → PlainAppend → PlainNode
with_appended n from append =
    record (leader_contact_recorded n from) { log = appended n.log append.prev append.prev_term append.entries n.commit }

-- the event that these entries of a log are removed, if there are any
abbrev pub removal : ℕ → LogValue → List Entry → List Event
removal id v [] = []
removal id v (e ∷ es) = event_at id (event.RemovedEntries (last v) (e ∷ es)) ∷ []

-- an append that removes entries reports them
abbrev pub removal_reported : NodeStep → PlainAppend → NodeStep
removal_reported t append =
    let gone = given_way t.node.log append.prev append.prev_term append.entries t.node.commit in
    record t { events = t.events ++ removal t.node.id t.node.log gone }

unfoldable pub append_entries_handled : NodeStep → ℕ → PlainAppend → NodeStep
append_entries_handled t from append =
    after_log (answer t.node.log append.prev append.prev_term append.entries t.node.commit)
    (with_node (removal_reported t append) (with_appended t.node from append)) from append

-- a snapshot replaces log, content and configuration
abbrev pub restored_to : PlainNode → Snapshot → PlainNode
restored_to n snapshot =
    record n {
      log = restored n.log snapshot;
      commit = snapshot.index;
      applied = snapshot.index;
      content = snapshot.content;
      tracker = configured n.tracker (config_of snapshot.config);
      restored = true;
    }

-- the response that the log matches the leader's up to the commit
abbrev pub with_match : PlainNode → ℕ → PlainNode
with_match n from = answered_with n from n.term (kind.AppendResponse n.commit)

abbrev pub new_snapshot_handled : NodeStep → ℕ → Snapshot → NodeStep
new_snapshot_handled t from snapshot =
    with_event (with_node t (with_match (restored_to t.node snapshot) from)) (event_at t.node.id (event.Restored snapshot.term snapshot.index))

-- a snapshot up to the commit is answered with the commit; one whose entry is in the log only raises the commit
unfoldable pub snapshot_handled : NodeStep → ℕ → Snapshot → NodeStep
snapshot_handled t from snapshot =
    if nat_le snapshot.index t.node.commit then with_node t (with_match t.node from)
    else (if is_term (term_at t.node.log snapshot.index) snapshot.term
    then with_node t (with_match (record t.node { commit = snapshot.index }) from)
    else new_snapshot_handled t from snapshot)

-- a message is forwarded to the leader, with this node as sender and without a term
abbrev pub forwarded_to_leader : PlainNode → MessageKind → PlainNode
forwarded_to_leader n what = posted_at n n.lead 0 what

abbrev pub proposal_forwarded : NodeStep → MessageKind → NodeStep
proposal_forwarded t what = if t.node.lead == 0 then with_event t (event_at t.node.id event.DroppedProposal) else with_node t (forwarded_to_leader t.node what)

abbrev pub transfer_forwarded : NodeStep → MessageKind → Message → NodeStep
transfer_forwarded t what m = if t.node.lead == 0 then ignored t m why.NoLeader else with_node t (forwarded_to_leader t.node what)
