-- Ticks: a leader's heartbeats and quorum checks, and the other nodes' election timeouts (Ongaro's thesis, sections 3.4, 3.10 and 6.2; etcd
-- raft documentation, "Tick" and "CheckQuorum")
use Rattle.std.specs.Prelude.{ℕ, ◌+◌, Bool, false, ◌&&◌, not, List, [], ◌∷◌, min, if◌then◌else◌, nat_le, ◌==◌}
use Rattle.rb_tracker.specs.Active.{quorum_active, others_marked_inactive}
use Rattle.rb_tracker.specs.Commits.{match_of}
use Rattle.rb_tracker.specs.Configs.{is_voter}
use Rattle.rb_tracker.specs.Trackers.{ids_of}
use Rattle.rb_message.specs.declared.event.EventKind.TheVariants as event
use Rattle.rb_message.specs.Events.{event_at}
use Rattle.rb_message.specs.declared.kind.MessageKind.TheVariants as kind
use Rattle.rb_message.specs.declared.role.Role.{Role}
use Rattle.rb_message.specs.declared.role.Role.TheVariants as role
use Rattle.rb_node.specs.declared.limits.TheConstants.{ELECTION_TICKS, HEARTBEAT_TICKS, MAX_TICKS}
use Rattle.rb_node.specs.Node.{PlainNode, NodeStep, with_event, with_node, posted, with_elapsed, with_heartbeat_elapsed}
use Rattle.rb_node.specs.Terms.{became_follower}
use Rattle.rb_node.specs.Campaigns.{campaigned}
use Rattle.rb_node.specs.Transferring.{transfer_ended}

-- the counter after one more tick; it stops at the longest timeout, past which no comparison differs
abbrev pub next_count : ℕ → ℕ
next_count n = min (n + 1) MAX_TICKS

-- ---- a leader

-- one heartbeat; its commit is at most the index that the follower is known to hold
abbrev pub heartbeat_sent_to : PlainNode → ℕ → PlainNode
heartbeat_sent_to n id = if id == n.id then n else posted n id (kind.Heartbeat (min (match_of n.tracker.views id) n.commit))

abbrev pub heartbeat_sent_to_each : PlainNode → List ℕ → PlainNode
heartbeat_sent_to_each n [] = n
heartbeat_sent_to_each n (id ∷ ids) = heartbeat_sent_to_each (heartbeat_sent_to n id) ids

-- to all other nodes with a view, if heartbeats are due
unfoldable pub due_heartbeats_sent : PlainNode → PlainNode
due_heartbeats_sent n =
    if nat_le HEARTBEAT_TICKS n.clock.heartbeat_elapsed then heartbeat_sent_to_each (with_heartbeat_elapsed n 0) (ids_of n.tracker.views) else n

abbrev pub has_lost_quorum : PlainNode → Bool
has_lost_quorum n = n.options.check_quorum && not (quorum_active n.tracker)

-- the next check counts who is active from now on
abbrev pub activity_reset : PlainNode → PlainNode
activity_reset n = if n.options.check_quorum then record n { tracker = others_marked_inactive n.tracker n.id } else n

abbrev pub quorum_lost : NodeStep → NodeStep
quorum_lost t = with_event t (event_at t.node.id event.LostQuorum)

-- a leader without an active quorum steps down; otherwise it cancels a transfer, which has taken too long
unfoldable pub active_quorum_checked : NodeStep → NodeStep
active_quorum_checked t =
    let u = transfer_ended (with_node t (activity_reset t.node)) in
    if has_lost_quorum t.node then became_follower (quorum_lost t) t.node.term 0
    else with_node u (due_heartbeats_sent u.node)

-- both counters after one more tick
abbrev pub counters_advanced : PlainNode → PlainNode
counters_advanced n = with_heartbeat_elapsed (with_elapsed n (next_count n.clock.elapsed)) (next_count n.clock.heartbeat_elapsed)

unfoldable pub leader_ticked : NodeStep → NodeStep
leader_ticked t =
    let n = counters_advanced t.node in
    if nat_le ELECTION_TICKS n.clock.elapsed then active_quorum_checked (with_node t (with_elapsed n 0))
    else with_node t (due_heartbeats_sent n)

-- ---- any other

-- a voter whose election timeout has passed
abbrev pub is_due : PlainNode → Bool
is_due n = is_voter n.tracker.config n.id && nat_le n.clock.timeout n.clock.elapsed

unfoldable pub non_leader_ticked : NodeStep → NodeStep
non_leader_ticked t =
    let n = with_elapsed t.node (next_count t.node.clock.elapsed) in
    if is_due n then campaigned (with_node t (with_elapsed n 0)) false else with_node t n

abbrev pub ticked_by : Role → NodeStep → NodeStep
ticked_by role.Follower t = non_leader_ticked t
ticked_by role.Precandidate t = non_leader_ticked t
ticked_by role.Candidate t = non_leader_ticked t
ticked_by role.Leader t = leader_ticked t

abbrev pub ticked : NodeStep → NodeStep
ticked t = ticked_by t.node.role t
