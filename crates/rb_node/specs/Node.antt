-- A node as plain values (the state of Ongaro's thesis, figure 3.1, and what etcd's raft adds), and the parts of every step
use Rattle.std.specs.Prelude.{ℕ, ◌≤◌, Bool, true, false, List, [], ◌∷◌, ◌++◌}
use Rattle.rb_raftlog.specs.Log.{LogValue, fresh}
use Rattle.rb_raftlog.specs.declared.snapshot.Snapshot.{Snapshot}
use Rattle.rb_raftlog.specs.declared.limits.TheConstants.{MAX_INDEX}
use Rattle.rb_tracker.specs.Ballots.{no_votes}
use Rattle.rb_tracker.specs.Configs.{config_of}
use Rattle.rb_tracker.specs.Trackers.{PlainTracker, no_views}
use Rattle.rb_tracker.specs.declared.votes.Votes.{Votes}
use Rattle.rb_message.specs.Messages.{type_of}
use Rattle.rb_message.specs.declared.event.Event.{Event}
use Rattle.rb_message.specs.declared.event.EventKind.TheVariants as event
use Rattle.rb_message.specs.Events.{event_at}
use Rattle.rb_message.specs.declared.event.WhyIgnored.{WhyIgnored}
use Rattle.rb_message.specs.declared.hard_state.HardState.{HardState}
use Rattle.rb_message.specs.declared.kind.MessageKind.{MessageKind}
use Rattle.rb_message.specs.declared.message.Message.{Message}
use Rattle.rb_message.specs.declared.role.Role.{Role}
use Rattle.rb_message.specs.declared.role.Role.TheVariants as role
use Rattle.rb_node.specs.declared.clock.Clock.{Clock}
use Rattle.rb_node.specs.declared.options.Options.{Options}
use Rattle.rb_node.specs.Clocks.{fresh_clock}

pub record PlainNode : Type 0 where
  pub id : ℕ
  pub term : ℕ
  -- the node that got this node's vote in its term, or 0
  pub vote : ℕ
  -- the known leader, or 0
  pub lead : ℕ
  pub role : Role
  pub log : LogValue
  -- the saved snapshot, which a restart begins at: the state at the base of the saved entries
  pub start : Snapshot
  -- the last index known to be committed, and the last applied index
  pub commit : ℕ
  pub applied : ℕ
  -- the applied payloads, joined
  pub content : List ℕ
  -- the configuration, and a leader's view of each member
  pub tracker : PlainTracker
  -- the votes in the node's campaign
  pub votes : Votes
  -- ticks since it heard from its leader (at a leader, since it checked its quorum), ticks since its last heartbeats, and its timeout
  pub clock : Clock
  -- the target of a leadership transfer, or 0
  pub transferee : ℕ
  -- the last index at which the log may have an unapplied change
  pub pending_change : ℕ
  -- the last saved hard state
  pub saved : HardState
  -- a restored snapshot isn't durable yet
  pub restored : Bool
  -- messages that go out with the next ready, and answers that wait until what they depend on is durable
  pub sent : List Message
  pub waiting : List Message
  pub options : Options

-- a node that starts at a snapshot, as a follower of nobody in term 0
abbrev pub started : ℕ → Snapshot → Options → PlainNode
started id start options = record {
  id = id;
  term = 0;
  vote = 0;
  lead = 0;
  role = role.Follower;
  log = fresh start.index start.term;
  start = start;
  commit = start.index;
  applied = start.index;
  content = start.content;
  tracker = no_views (config_of start.config);
  votes = no_votes;
  clock = fresh_clock;
  transferee = 0;
  pending_change = 0;
  saved = record { term = 0; vote = 0; commit = start.index };
  restored = false;
  sent = [];
  waiting = [];
  options = options;
}

-- with a count of ticks since it heard from its leader
abbrev pub with_elapsed : PlainNode → ℕ → PlainNode
with_elapsed n ticks = record n { clock = record n.clock { elapsed = ticks } }

-- with a count of ticks since its last heartbeats
abbrev pub with_heartbeat_elapsed : PlainNode → ℕ → PlainNode
with_heartbeat_elapsed n ticks = record n { clock = record n.clock { heartbeat_elapsed = ticks } }

-- with an election timeout
abbrev pub with_timeout : PlainNode → ℕ → PlainNode
with_timeout n ticks = record n { clock = record n.clock { timeout = ticks } }

-- the invariant of a node
pub record IsNode (commit applied saved_commit : ℕ) : Type 0 where
  pub commit_fits : commit ≤ MAX_INDEX
  pub applied_fits : applied ≤ MAX_INDEX
  pub saved_fits : saved_commit ≤ MAX_INDEX

-- a step so far: the node, and its events
pub record NodeStep : Type 0 where
  pub node : PlainNode
  pub events : List Event

abbrev pub node_step : PlainNode → List Event → NodeStep
node_step node events = record { node = node; events = events }

abbrev pub with_node : NodeStep → PlainNode → NodeStep
with_node t node = record t { node = node }

-- one more event
abbrev pub with_event : NodeStep → Event → NodeStep
with_event t e = record t { events = t.events ++ e ∷ [] }

-- a message is ignored
abbrev pub ignored : NodeStep → Message → WhyIgnored → NodeStep
ignored t m why = with_event t (event_at t.node.id (event.Ignored (type_of m.kind) m.from why))

abbrev pub message : ℕ → ℕ → ℕ → MessageKind → Message
message from to term what = record { from = from; to = to; term = term; kind = what }

-- one more message, which goes out with the next ready
abbrev pub posted_at : PlainNode → ℕ → ℕ → MessageKind → PlainNode
posted_at n to term what = record n { sent = n.sent ++ message n.id to term what ∷ [] }

-- the same, of the node's term
abbrev pub posted : PlainNode → ℕ → MessageKind → PlainNode
posted n to what = posted_at n to n.term what

-- one more answer, which waits until the next ready is durable
abbrev pub answered_with : PlainNode → ℕ → ℕ → MessageKind → PlainNode
answered_with n to term answer = record n { waiting = n.waiting ++ message n.id to term answer ∷ [] }

abbrev pub is_leader : Role → Bool
is_leader role.Follower = false
is_leader role.Precandidate = false
is_leader role.Candidate = false
is_leader role.Leader = true
